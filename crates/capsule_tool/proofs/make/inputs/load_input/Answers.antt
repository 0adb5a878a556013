use Rattle.std.proofs.lemmas.Result.{err_from_is_err_and}
use Rattle.capsule_tool.specs.Loads.{load_next}
use Rattle.capsule_tool.proofs.WorkLaws.{step_on}
use Rattle.capsule_tool.proofs.make.inputs.load_input.Goals as goal

pub returns-in_err-bytes-clause-steps : goal.returns-in_err-bytes-clause-steps
returns-in_err-bytes-clause-steps g c =
    let p = err_from_is_err_and c.from_residual.result c.from_residual.ensures.1 in λ rest.
    rw (p.1, p.2)
    (c.in_err-bytes.ensures.steps
    (load_next c.args.loaded.now.items c.args.sum.now c.args.name.now rest))

pub returns-clause-steps : goal.returns-clause-steps
returns-clause-steps g c = λ rest.
    step_on _ _ _ _ _ c.keep_input.result
    (c.in_ok-bytes.ensures.steps
    (load_next c.args.loaded.now.items c.args.sum.now c.args.name.now rest))
    (c.keep_input.ensures.steps rest)
