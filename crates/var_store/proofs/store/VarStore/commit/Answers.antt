use Rattle.std.proofs.Common.{◌≡◌, ◌∙◌, ap, sym, subst, List, false}
use Rattle.var_log.specs.declared.change.Change.{Change}
use Rattle.var_log.specs.Changes.{after, no_variables}
use Rattle.var_store.specs.Places.{HavePlaces}
use Rattle.var_store.specs.Stores.{HeldStore, PreparedValue, Stands, held}
use Rattle.var_store.proofs.StoreLemmas.{lives_with, stands_from}
use Rattle.var_store.proofs.store.VarStore.commit.Goals as goal

pub exchange_all-requires-clause-places : goal.exchange_all-requires-clause-places
exchange_all-requires-clause-places g c =
    let same = c.prepared.invariant.same ∙ ap (λ (p : PreparedValue). p.changes) c.prepared.view_is in
    let places = ap (λ (s : HeldStore). s.places) c.self.view_is in
    subst (λ (cs : List Change). HavePlaces cs c.self.inside.places) (sym same)
    (subst (λ (ps : List Change). HavePlaces c.args.prepared.changes ps) (sym places) c.requires.places)

pub returns-in-Ok-clause-stands : goal.returns-in-Ok-clause-stands
returns-in-Ok-clause-stands g c =
    let old = g.F.BenchState.state c.args.flash.now in
    let new = g.F.BenchState.state c.append.new.flash in
    let s = held c.self.inside.log c.self.inside.places in
    let fresh : s.log.stale ≡ false = sym c.in-Ok.ensures.refused in
    let stands : Stands s old =
    subst (λ (x : HeldStore). Stands x old) (sym c.self.view_is)
    (c.requires.stands (sym (ap (λ (x : HeldStore). x.log.stale) c.self.view_is) ∙ fresh)) in
    let made = c.exchange_all.ensures.value
    ∙ ap (after (after no_variables s.places)) c.prepared.invariant.same in
    stands_from c.append.new.self c.exchange_all.new.self new c.in-Ok.ensures.stands
    (lives_with s c.prepared.inside.record.changes c.exchange_all.new.self old new stands
    c.append.ensures.frame.told c.in-Ok.ensures.durable made)
