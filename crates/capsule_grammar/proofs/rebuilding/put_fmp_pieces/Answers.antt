use Rattle.std.proofs.Common.{◌++◌, ◌∙◌, List, ℕ, append_assoc, sym, ap, subst}
use Rattle.std.specs.List.{concat}
use Rattle.capsule_grammar.specs.Accepted.{IsFmpBody}
use Rattle.capsule_grammar.specs.Pieces.{joined}
use Rattle.capsule_grammar.specs.Rebuilt.{emptied_on, kept_items}
use Rattle.capsule_grammar.specs.Refusals.{body_of}
use Rattle.capsule_grammar.specs.Spelling.{spelling}
use Rattle.capsule_grammar.proofs.PieceLemmas.{joined_more}
use Rattle.capsule_grammar.proofs.rebuilding.put_fmp_pieces.Goals as goal

pub put_kept_pieces-requires : goal.put_kept_pieces-requires
put_kept_pieces-requires c = subst IsFmpBody (sym c.body.ensures) c.requires.fmp

pub returns : goal.returns
returns c =
    let old = joined c.args.pieces.now.items in
    let heads = c.put_heads.new.out in
    c.in_ok-put_kept_pieces.ensures
    ∙ ap (λ (l : List ℕ). joined c.push.new.self.items ++ concat (kept_items l)) c.body.ensures
    ∙ ap (λ (l : List ℕ). l ++ concat (kept_items (body_of c.args.bytes.now)))
    (joined_more c.args.pieces.now.items _ _ c.in_ok-push.ensures.ok)
    ∙ append_assoc old heads (concat (kept_items (body_of c.args.bytes.now)))
    ∙ ap (λ (l : List ℕ). old ++ l) (c.in_ok-put_heads.ensures
    ∙ ap (λ (l : List ℕ). l ++ spelling (emptied_on c.args.bytes.now)) c.new-heads.ensures)
