use Rattle.std.proofs.Common.{List, ℕ, ◌++◌, ◌∙◌, sym, ap, subst}
use Rattle.std.specs.List.{concat}
use Rattle.capsule_grammar.specs.Accepted.{IsFmpBody}
use Rattle.capsule_grammar.specs.Rebuilt.{emptied_on, kept_items}
use Rattle.capsule_grammar.specs.Spelling.{spelling}
use Rattle.capsule_grammar.proofs.rebuilding.rebuild_fmp.Goals as goal

pub put_kept_items-requires : goal.put_kept_items-requires
put_kept_items-requires c = subst IsFmpBody (sym c.body.ensures) c.requires.fmp

pub returns : goal.returns
returns c =
    c.in_ok-put_kept_items.ensures
    ∙ ap (λ (l : List ℕ). c.put_heads.new.out ++ concat (kept_items l)) c.body.ensures
    ∙ c.in_ok-put_heads.ensures
    ∙ ap (λ (l : List ℕ). l ++ spelling (emptied_on c.args.bytes.now))
    (c.reserve.ensures ∙ c.new-out.ensures)
