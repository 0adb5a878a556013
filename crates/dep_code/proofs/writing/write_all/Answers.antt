use Rattle.std.proofs.Common.{arith, ap, sym, ◌∙◌, List, ℕ, ◌++◌}
use Rattle.dep_code.specs.Operations.{op_bytes, section_bytes}
use Rattle.dep_code.proofs.Loops.{bytes_more, all_ops}
use Rattle.dep_code.proofs.Types.{IsItem}
use Rattle.dep_code.proofs.writing.write_all.Goals as goal

pub loop-item-preserved : goal.loop-item-preserved
loop-item-preserved c =
    let item : IsItem c.args.ops.now c.loop-item.item-index c.item-item.result =
    record { there = omega arith; here = c.item-item.is } in
    c.in_ok-put_op.ensures ∙ ap
    (λ (l : List ℕ). l ++ op_bytes c.item-item.result.1) c.loop-item.invariant
    ∙ sym (bytes_more c.args.ops.now c.loop-item.item-index c.item-item.result item)

pub returns : goal.returns
returns c = c.loop-item.invariant
    ∙ ap section_bytes (all_ops c.args.ops.now c.loop-item.item-index (omega arith))
