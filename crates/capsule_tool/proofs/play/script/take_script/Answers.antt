use Rattle.std.proofs.Common.{ℕ, List}
use Rattle.std.proofs.lemmas.Result.{err_from_is_err_and}
use Rattle.cu_base.specs.Kept.{Kept}
use Rattle.reset_play.specs.ScriptText.{script_said}
use Rattle.reference_machine.specs.declared.event.Event.{Event}
use Rattle.capsule_tool.specs.Plays.{script_next, events_work}
use Rattle.capsule_tool.proofs.WorkLaws.{step_on}
use Rattle.capsule_tool.proofs.play.script.take_script.Goals as goal

pub returns-in_err-bytes-clause-steps : goal.returns-in_err-bytes-clause-steps
returns-in_err-bytes-clause-steps g c =
    let p = err_from_is_err_and c.from_residual.result c.from_residual.ensures.1 in λ board.
    rw (p.1, p.2)
    (c.in_err-bytes.ensures.steps
    (λ (bytes : List ℕ). script_next board c.args.name.now (script_said bytes)))

pub returns-clause-steps : goal.returns-clause-steps
returns-clause-steps g c = λ board.
    step_on _ _ _ _ (λ (script : Kept Event). events_work board script.items) c.script_of.result
    (c.in_ok-bytes.ensures.steps
    (λ (bytes : List ℕ). script_next board c.args.name.now (script_said bytes)))
    (c.script_of.ensures.steps board)
