use Rattle.std.proofs.Common.{◌+◌, ◌*◌, length, ◌∙◌, arith}
use Rattle.capsule_grammar.specs.Spelling.{item_bytes}
use Rattle.capsule_grammar.proofs.SizeLemmas.{size_more, size_all}
use Rattle.capsule_grammar.proofs.sizes.fmp_size.Goals as goal

pub loop-k-preserved : goal.loop-k-preserved
loop-k-preserved c =
    let v = c.args.body.now in
    c.saturating_add-size-in-loop-k.ensures
    ∙ size_more (8 + 8 * length (item_bytes v) + length v.lead)
    (item_bytes v) c.loop-k.k c.loop-k.size c.item_size.result
    (omega arith) c.loop-k.invariant c.item_size.ensures

pub returns : goal.returns
returns c = size_all c.args.body.now c.loop-k.k c.loop-k.size (omega arith) c.loop-k.invariant
