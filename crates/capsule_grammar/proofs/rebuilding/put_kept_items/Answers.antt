use Rattle.std.proofs.Common.{List, ℕ, ◌++◌, ◌∙◌, ap, sym, arith}
use Rattle.std.specs.List.{concat}
use Rattle.capsule_grammar.specs.Rebuilt.{kept_items}
use Rattle.capsule_grammar.proofs.SizeLemmas.{items_grown}
use Rattle.capsule_grammar.proofs.RebuiltLemmas.{kept_at, kept_all, in_list}
use Rattle.capsule_grammar.proofs.rebuilding.put_kept_items.Goals as goal

pub loop-k-preserved : goal.loop-k-preserved
loop-k-preserved c =
    let body = c.args.body.now in
    let k = c.loop-k.k in
    items_grown c.args.out.now c.loop-k.out _ (kept_items body) k
    (in_list body k (omega arith)) c.loop-k.invariant
    (c.in_ok-push_slice.ensures.ok
    ∙ ap (λ (l : List ℕ). c.loop-k.out ++ l) (c.kept.ensures ∙ sym (kept_at body k (omega arith))))

pub returns : goal.returns
returns c =
    let body = c.args.body.now in
    c.loop-k.invariant ∙ ap (λ (l : List (List ℕ)). c.args.out.now ++ concat l)
    (kept_all body c.loop-k.k (omega arith))
