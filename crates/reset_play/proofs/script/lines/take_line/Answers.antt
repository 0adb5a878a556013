use Rattle.std.proofs.Common.{arith}
use Rattle.reset_play.proofs.ScriptLemmas.{taken}
use Rattle.reset_play.proofs.script.lines.take_line.Goals as goal

pub returns-in_ok-push-in-Ok-Some-clause-ok : goal.returns-in_ok-push-in-Ok-Some-clause-ok
returns-in_ok-push-in-Ok-Some-clause-ok c = λ rest.
    taken c.args.script.now.items c.push.new.self.items c.in-Ok-Some.event c.args.number
    c.args.line.now rest
    (rw c.in-Ok-Some.field-0-is at c.in-Ok-Some.ensures) c.in_ok-push-in-Ok-Some.ensures.ok
    (omega arith)
