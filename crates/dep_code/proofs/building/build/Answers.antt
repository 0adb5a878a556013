use Rattle.std.proofs.Common.{arith, ap, ◌∙◌}
use Rattle.dep_code.specs.Building.{has_tree}
use Rattle.dep_code.specs.Trees.{seen}
use Rattle.dep_code.proofs.Loops.{step_stands, entries_more, one_tree_left, tree_is}
use Rattle.dep_code.proofs.Types.{IsItem}
use Rattle.dep_code.proofs.building.build.Goals as goal

pub apply-requires : goal.apply-requires
apply-requires c =
    let item : IsItem c.args.ops.now c.loop-item.item-index c.item-item.result =
    record { there = omega arith; here = c.item-item.is } in
    step_stands c.args.ops.now c.loop-item.item-index c.item-item.result _ c.requires item
    c.loop-item.invariant

pub loop-item-preserved : goal.loop-item-preserved
loop-item-preserved c =
    let item : IsItem c.args.ops.now c.loop-item.item-index c.item-item.result =
    record { there = omega arith; here = c.item-item.is } in
    entries_more c.args.ops.now c.loop-item.item-index c.item-item.result _ item
    c.loop-item.invariant ∙ c.in_ok-apply.ensures

pub pop_tree-requires : goal.pop_tree-requires
pop_tree-requires c = ap has_tree
    (one_tree_left c.args.ops.now c.loop-item.item-index _ c.requires
    (omega arith) c.loop-item.invariant)

pub returns : goal.returns
returns c =
    let left = one_tree_left c.args.ops.now c.loop-item.item-index _ c.requires
    (omega arith) c.loop-item.invariant in
    tree_is c.args.ops.now c.requires _ _ (seen c.pop_tree.result) left c.pop_tree.ensures
