use Rattle.std.proofs.Common.{ℕ, ◌-◌, length, Some, sym, ap, ◌∙◌, arith}
use Rattle.dep_code.specs.declared.op.Op.{Op}
use Rattle.dep_code.specs.declared.fault.DepWhy.TheVariants.{NotOneBool}
use Rattle.std.proofs.lemmas.Bool.Decides.{when_true, when_false}
use Rattle.dep_code.proofs.Types.{IsItem, bad_types, stack_more, typed_more, not_one_truth}
use Rattle.dep_code.proofs.Types.{well_typed}
use Rattle.dep_code.proofs.typing.check_types.Goals as goal

pub returns-then-not-branch : goal.returns-then-not-branch
returns-then-not-branch c =
    let items = c.args.ops.now in
    let item : IsItem items c.loop-item.item-index c.item-item.result =
    record { there = omega arith; here = c.item-item.is } in
    rw c.at.ensures
    (bad_types items c.loop-item.item-index c.item-item.result c.loop-item.stack c.requires.places
    item c.loop-item.invariant.stack
    (when_false _ _ c.if-not-branch.true c.in_ok-apply.ensures) c.loop-item.invariant.typed)

pub loop-item-preserved : goal.loop-item-preserved
loop-item-preserved c =
    let items = c.args.ops.now in
    let k = c.loop-item.item-index in
    let item : IsItem items k c.item-item.result =
    record { there = omega arith; here = c.item-item.is } in
    let next = stack_more items k c.item-item.result c.loop-item.stack _ item
    c.loop-item.invariant.stack (when_true _ _ c.if-not-branch.false c.in_ok-apply.ensures) in
    record {
      stack = next;
      typed = typed_more items k c.apply.new.stack next
          c.loop-item.invariant.typed;
    }

pub returns-then-not-is_one_truth : goal.returns-then-not-is_one_truth
returns-then-not-is_one_truth c =
    let items = c.args.ops.now in
    let last : IsItem items (length items - 1) c.index-ops-ops.result =
    record { there = omega arith; here = c.index-ops-ops.is } in
    rw c.at-then-not-is_one_truth.ensures
    (not_one_truth items c.loop-item.item-index c.index-ops-ops.result c.loop-item.stack
    c.requires.places (omega arith) last c.loop-item.invariant.stack c.loop-item.invariant.typed
    (sym c.if-not-is_one_truth.ensures)
    ∙ ap (λ (p : ℕ × Op). Some (p.0, NotOneBool)) c.index-ops-ops.is)

pub returns : goal.returns
returns c = well_typed c.args.ops.now c.loop-item.item-index c.loop-item.stack
    (omega arith) c.loop-item.invariant.stack c.loop-item.invariant.typed
    (sym c.if-not-is_one_truth.ensures)
