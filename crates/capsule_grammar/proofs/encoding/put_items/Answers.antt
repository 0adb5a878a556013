use Rattle.std.proofs.Common.{arith}
use Rattle.capsule_grammar.specs.Spelling.{item_bytes}
use Rattle.capsule_grammar.proofs.SizeLemmas.{items_grown}
use Rattle.capsule_grammar.proofs.encoding.put_items.Goals as goal

pub loop-k-preserved : goal.loop-k-preserved
loop-k-preserved c =
    items_grown c.args.out.now _ _ (item_bytes c.args.body.now) c.loop-k.k
    (omega arith) c.loop-k.invariant c.in_ok-put_item.ensures
