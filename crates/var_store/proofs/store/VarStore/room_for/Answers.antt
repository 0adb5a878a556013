use Rattle.std.proofs.Common.{◌≡◌, ◌∙◌, ap, sym, subst, false}
use Rattle.var_log.proofs.OpenLemmas.{lives_after}
use Rattle.var_log.proofs.Reclaims.{unmoved}
use Rattle.var_store.specs.Stores.{HeldStore, Stands, held}
use Rattle.var_store.proofs.StoreLemmas.{lives, stands_from}
use Rattle.var_store.proofs.store.VarStore.room_for.Goals as goal

pub returns-in-Err-clause-images : goal.returns-in-Err-clause-images
returns-in-Err-clause-images g c = λ fresh.
    unmoved c.args.self.now.log (g.F.BenchState.state c.args.flash.now) (c.requires.stands fresh).log.lies

pub returns-in-Ok-room-clause-stands : goal.returns-in-Ok-room-clause-stands
returns-in-Ok-room-clause-stands g c =
    let old = g.F.BenchState.state c.args.flash.now in
    let new = g.F.BenchState.state c.room.new.flash in
    let s = held c.self.inside.log c.self.inside.places in
    let fresh : s.log.stale ≡ false = sym c.in-Ok-room.ensures.refused in
    let stands : Stands s old =
    subst (λ (x : HeldStore). Stands x old) (sym c.self.view_is)
    (c.requires.stands (sym (ap (λ (x : HeldStore). x.log.stale) c.self.view_is) ∙ fresh)) in
    stands_from c.room.new.self s.places new c.in-Ok-room.ensures.stands
    (lives_after old new s.places c.room.ensures.frame.told (c.room.ensures.images fresh) (lives s old stands))
