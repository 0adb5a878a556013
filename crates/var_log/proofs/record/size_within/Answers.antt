use Rattle.std.proofs.Common.{◌≡◌, ◌∙◌, ◌++◌, ◌∷◌, [], ◌+◌, List, ap, sym, subst, take, arith, All}
use Rattle.std.proofs.Common.{IsTrue}
use Rattle.std.proofs.lemmas.List.{take_more, take_all}
use Rattle.std.proofs.lemmas.List.Elements.{All-push}
use Rattle.var_log.specs.declared.change.Change.{Change}
use Rattle.var_log.specs.Changes.{has_sizes}
use Rattle.var_log.proofs.Spelled.{one_less}
use Rattle.var_log.proofs.record.size_within.Goals as goal

pub loop-change-preserved : goal.loop-change-preserved
loop-change-preserved c =
    let xs = c.args.changes.now in
    let i = c.loop-change.change-index in
    let x = c.change-item.result in
    let inv = c.loop-change.invariant in
    let less = one_less xs i x c.loop-change-test.true (sym c.change-item.is) in
    let more : take (i + 1) xs ≡ take i xs ++ x ∷ [] =
    take_more xs i x c.loop-change-test.true
    ∙ ap (λ (d : Change). take i xs ++ d ∷ []) (sym c.change-item.is) in (
      omega (arith, less, c.change_len-body.ensures.value, inv.0),
      subst (λ (l : List Change). All (λ d. IsTrue (has_sizes d)) l) (sym more)
          (All-push (λ d. IsTrue (has_sizes d)) (take i xs) x inv.1 c.change_len-body.ensures.sizes),
      omega (arith, c.if-body-most.false),
    )

pub returns-then-size-most-clause-sizes : goal.returns-then-size-most-clause-sizes
returns-then-size-most-clause-sizes c =
    let xs = c.args.changes.now in
    subst (λ (l : List Change). All (λ d. IsTrue (has_sizes d)) l)
    (take_all c.loop-change.change-index xs (omega (arith, c.loop-change-test.false)))
    c.loop-change.invariant.1
