use Rattle.std.proofs.Common.{arith}
use Rattle.recipe_files.proofs.SeenLemmas.{sees_more}
use Rattle.recipe_files.proofs.inputs.see_drivers.Goals as goal

pub loop-driver-preserved : goal.loop-driver-preserved
loop-driver-preserved c =
    sees_more _ _ _ c.args.drivers.now c.loop-driver.driver-index c.driver-item.result _
    (omega arith) c.driver-item.is c.as_str.ensures c.loop-driver.invariant c.in_ok-see.ensures
