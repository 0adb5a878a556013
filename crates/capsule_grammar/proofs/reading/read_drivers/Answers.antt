use Rattle.std.proofs.Common.{◌∙◌, arith}
use Rattle.capsule_grammar.specs.Refusals.{item}
use Rattle.capsule_grammar.proofs.Lists.{pushed}
use Rattle.capsule_grammar.proofs.reading.read_drivers.Goals as goal

pub loop-k-preserved : goal.loop-k-preserved
loop-k-preserved c =
    pushed (item c.args.body.now) 0 c.loop-k.k c.loop-k.k _ _ _ (omega arith) c.loop-k.invariant
    (c.in_ok-from_slice.ensures ∙ c.item.ensures) c.in_ok-push.ensures.ok
