use Rattle.std.proofs.Common.{[], arith, ap, refl, sym}
use Rattle.dep_code.specs.Evaluation.{has_truth}
use Rattle.dep_code.proofs.Evaluated.{computes_on, computed_more, all_computed, top_is}
use Rattle.dep_code.proofs.Types.{IsItem}
use Rattle.dep_code.proofs.evaluation.compute.Goals as goal

pub loop-item-init : goal.loop-item-init
loop-item-init c = record { entries = []; are = refl; values = sym c.new-stack.ensures }

pub apply-requires : goal.apply-requires
apply-requires c =
    let item : IsItem c.args.ops.now c.loop-item.item-index c.item-item.result =
    record { there = omega arith; here = c.item-item.is } in
    computes_on c.args.versions.now c.args.ops.now c.loop-item.item-index c.item-item.result
    c.loop-item.stack c.requires item c.loop-item.invariant

pub loop-item-preserved : goal.loop-item-preserved
loop-item-preserved c =
    let item : IsItem c.args.ops.now c.loop-item.item-index c.item-item.result =
    record { there = omega arith; here = c.item-item.is } in
    computed_more c.args.versions.now c.args.ops.now c.loop-item.item-index c.item-item.result
    c.loop-item.stack c.apply.new.stack c.requires item c.loop-item.invariant c.in_ok-apply.ensures

pub pop_truth-requires : goal.pop_truth-requires
pop_truth-requires c = ap has_truth
    (all_computed c.args.versions.now c.args.ops.now c.loop-item.item-index c.loop-item.stack
    c.requires (omega arith) c.loop-item.invariant)

pub returns : goal.returns
returns c =
    let all = all_computed c.args.versions.now c.args.ops.now c.loop-item.item-index
    c.loop-item.stack c.requires (omega arith) c.loop-item.invariant in
    (c.requires.tree, c.requires.is_section.reads, top_is _ _ _ _ all c.pop_truth.ensures)
