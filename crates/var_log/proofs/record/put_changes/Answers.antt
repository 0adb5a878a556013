use Rattle.std.proofs.Common.{◌≡◌, ◌+◌, ◌∙◌, ◌++◌, ◌∷◌, [], List, ℕ, ap, sym, subst, take, All}
use Rattle.std.proofs.Common.{IsTrue}
use Rattle.std.specs.List.{flat_map}
use Rattle.std.proofs.lemmas.List.{take_more, flat_map_more}
use Rattle.std.proofs.lemmas.List.Elements.{All-push}
use Rattle.var_log.specs.declared.change.Change.{Change}
use Rattle.var_log.specs.Changes.{has_sizes}
use Rattle.var_log.specs.Records.{change_bytes}
use Rattle.var_log.proofs.record.put_changes.Goals as goal

pub loop-change-preserved : goal.loop-change-preserved
loop-change-preserved c =
    let xs = c.args.changes.now in
    let i = c.loop-change.change-index in
    let x = c.change-item.result in
    let out = c.args.out.now.items in
    let inv = c.loop-change.invariant in
    let more : take (i + 1) xs ≡ take i xs ++ x ∷ [] =
    take_more xs i x c.loop-change-test.true
    ∙ ap (λ (d : Change). take i xs ++ d ∷ []) (sym c.change-item.is) in (
      c.in_ok-put_change.ensures.ok ∙ ap (λ (l : List ℕ). l ++ change_bytes x) inv.0
          ∙ flat_map_more change_bytes out (take i xs) x
          ∙ ap (λ (l : List Change). out ++ flat_map change_bytes l) (sym more),
      subst (λ (l : List Change). All (λ d. IsTrue (has_sizes d)) l) (sym more)
          (All-push (λ d. IsTrue (has_sizes d)) (take i xs) x inv.1 c.in_ok-put_change.ensures.sizes),
    )
