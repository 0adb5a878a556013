use Rattle.std.proofs.Common.{ℕ, List}
use Rattle.std.proofs.lemmas.Result.{err_from_is_err_and}
use Rattle.bench_model.specs.Boards.{BoardValue}
use Rattle.recipe_files.specs.Boards.{board_text}
use Rattle.capsule_tool.specs.Plays.{board_next, script_work}
use Rattle.capsule_tool.proofs.WorkLaws.{step_on}
use Rattle.capsule_tool.proofs.play.board.take_board.Goals as goal

pub returns-in_err-bytes-clause-steps : goal.returns-in_err-bytes-clause-steps
returns-in_err-bytes-clause-steps g c =
    let p = err_from_is_err_and c.from_residual.result c.from_residual.ensures.1 in λ script.
    rw (p.1, p.2)
    (c.in_err-bytes.ensures.steps
    (λ (bytes : List ℕ). board_next c.args.name.now script (board_text bytes)))

pub returns-clause-steps : goal.returns-clause-steps
returns-clause-steps g c = λ script.
    step_on _ _ _ _ (λ (board : BoardValue). script_work board script) c.board_of.result
    (c.in_ok-bytes.ensures.steps
    (λ (bytes : List ℕ). board_next c.args.name.now script (board_text bytes)))
    (c.board_of.ensures.steps script)
