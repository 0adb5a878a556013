use Rattle.std.proofs.Common.{◌≡◌, rules}
use Rattle.std.specs.Prelude.{Err}
use Rattle.cu_base.specs.declared.limits.TheConstants.{MAX_CAPSULE_BYTES}
use Rattle.capsule_tool.specs.Verdicts.{verdict_of}
use Rattle.capsule_tool.specs.declared.stop.Stop.TheVariants.{Memory}
use Rattle.capsule_tool.proofs.WorkLaws.{judged_on, read_answered, read_stopped}
use Rattle.capsule_tool.proofs.input.judge_input.Goals as goal

pub returns-in-Ok-clause-steps : goal.returns-in-Ok-clause-steps
returns-in-Ok-clause-steps g c = λ next.
    judged_on c.args.name.now next (g.I.Inputs.seen c.args.inputs.now)
    (g.I.Inputs.seen c.judge_named.new.inputs) c.in-Ok.verdict c.in-Ok.ensures.reads

pub returns-in_ok-read_fault-in-Err-clause-steps :
    goal.returns-in_ok-read_fault-in-Err-clause-steps
returns-in_ok-read_fault-in-Err-clause-steps g c = λ next.
    read_answered MAX_CAPSULE_BYTES c.args.name.now (λ bytes. next (verdict_of bytes))
    (g.I.Inputs.seen c.args.inputs.now) (g.I.Inputs.seen c.judge_named.new.inputs)
    c.in-Err.fault c.in_ok-read_fault-in-Err.field-0 c.in-Err.ensures.reads
    c.in_ok-read_fault-in-Err.ensures

pub returns-in_err-read_fault-in-Err-clause-steps :
    goal.returns-in_err-read_fault-in-Err-clause-steps
returns-in_err-read_fault-in-Err-clause-steps g c =
    let is : c.from_residual.result ≡ Err Memory = search rules in λ next.
    read_stopped MAX_CAPSULE_BYTES c.args.name.now (λ bytes. next (verdict_of bytes)) next
    (g.I.Inputs.seen c.args.inputs.now) (g.I.Inputs.seen c.judge_named.new.inputs)
    c.in-Err.fault c.from_residual.result is c.in-Err.ensures.reads
