use Rattle.std.proofs.Common.{List, ℕ, ◌++◌, ◌∙◌, ap, sym, arith}
use Rattle.std.specs.List.{concat}
use Rattle.capsule_grammar.specs.Pieces.{joined}
use Rattle.capsule_grammar.specs.Rebuilt.{kept_items}
use Rattle.capsule_grammar.proofs.PieceLemmas.{joined_more}
use Rattle.capsule_grammar.proofs.SizeLemmas.{items_grown}
use Rattle.capsule_grammar.proofs.RebuiltLemmas.{kept_at, kept_all, in_list}
use Rattle.capsule_grammar.proofs.rebuilding.put_kept_pieces.Goals as goal

pub loop-k-preserved : goal.loop-k-preserved
loop-k-preserved c =
    let body = c.args.body.now in
    let k = c.loop-k.k in
    items_grown (joined c.args.pieces.now.items) (joined c.loop-k.pieces.items) _ (kept_items body) k
    (in_list body k (omega arith)) c.loop-k.invariant
    (joined_more c.loop-k.pieces.items _ _ c.in_ok-push.ensures.ok
    ∙ ap (λ (l : List ℕ). joined c.loop-k.pieces.items ++ l)
    (c.kept.ensures ∙ sym (kept_at body k (omega arith))))

pub returns : goal.returns
returns c =
    let body = c.args.body.now in
    c.loop-k.invariant ∙ ap (λ (l : List (List ℕ)). joined c.args.pieces.now.items ++ concat l)
    (kept_all body c.loop-k.k (omega arith))
