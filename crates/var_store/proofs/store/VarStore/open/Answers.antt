use Rattle.var_store.proofs.StoreLemmas.{lives_as, stands_from}
use Rattle.std.proofs.Common.{◌∙◌, ap, List}
use Rattle.var_log.specs.declared.change.Change.{Change}
use Rattle.var_log.specs.Changes.{after, no_variables}
use Rattle.var_store.proofs.store.VarStore.open.Goals as goal

pub returns-in-Ok-places_of-clause-stands : goal.returns-in-Ok-places_of-clause-stands
returns-in-Ok-places_of-clause-stands g c =
    let b = g.F.BenchState.state c.open.new.flash in
    stands_from c.in-Ok.opened.0 c.in-Ok-places_of.places b c.in-Ok.ensures.stands
    (lives_as c.in-Ok.opened.1.items c.in-Ok-places_of.places b
    (c.in-Ok-places_of.ensures.value ∙ ap (λ (l : List Change). after no_variables l) c.as_slice.ensures.value)
    c.in-Ok.ensures.live)
