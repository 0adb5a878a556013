use Rattle.std.proofs.Common.{arith}
use Rattle.recipe_files.proofs.SeenLemmas.{sees_item}
use Rattle.recipe_files.proofs.inputs.see_items.Goals as goal

pub loop-item-preserved : goal.loop-item-preserved
loop-item-preserved c =
    sees_item _ _ _ c.args.items.now c.loop-item.item-index c.item-item.result _ (omega arith)
    c.item-item.is c.payload_of.ensures c.loop-item.invariant c.in_ok-see.ensures
