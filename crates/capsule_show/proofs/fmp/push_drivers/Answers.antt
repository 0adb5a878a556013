use Rattle.capsule_grammar.specs.Refusals.{item}
use Rattle.capsule_show.proofs.Growing.{driver_grown}
use Rattle.capsule_show.proofs.fmp.push_drivers.Goals as goal

pub loop-k-preserved : goal.loop-k-preserved
loop-k-preserved c = driver_grown (item c.args.body.now) c.loop-k.k c.args.out.now c.loop-k.out _ _
    c.loop-k.invariant c.item.ensures c.in_ok-push_driver.ensures
