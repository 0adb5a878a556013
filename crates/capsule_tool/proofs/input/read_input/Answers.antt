use Rattle.std.proofs.Common.{◌≡◌, rules}
use Rattle.std.specs.Prelude.{Err}
use Rattle.capsule_tool.specs.declared.stop.Stop.TheVariants.{Memory}
use Rattle.capsule_tool.proofs.WorkLaws.{one_read, read_answered, read_stopped}
use Rattle.capsule_tool.proofs.input.read_input.Goals as goal

pub returns-in-Ok-clause-steps : goal.returns-in-Ok-clause-steps
returns-in-Ok-clause-steps g c = λ next. one_read _ _ _ next _ _ _ c.in-Ok.ensures.reads

pub returns-in_ok-read_fault-in-Err-clause-steps :
    goal.returns-in_ok-read_fault-in-Err-clause-steps
returns-in_ok-read_fault-in-Err-clause-steps g c = λ next.
    read_answered c.args.limit c.args.name.now next (g.I.Inputs.seen c.args.inputs.now)
    (g.I.Inputs.seen c.read_named.new.inputs) c.in-Err.fault c.in_ok-read_fault-in-Err.field-0
    c.in-Err.ensures.reads c.in_ok-read_fault-in-Err.ensures

pub returns-in_err-read_fault-in-Err-clause-steps :
    goal.returns-in_err-read_fault-in-Err-clause-steps
returns-in_err-read_fault-in-Err-clause-steps g c =
    let is : c.from_residual.result ≡ Err Memory = search rules in λ next.
    read_stopped c.args.limit c.args.name.now next next (g.I.Inputs.seen c.args.inputs.now)
    (g.I.Inputs.seen c.read_named.new.inputs) c.in-Err.fault c.from_residual.result is
    c.in-Err.ensures.reads
