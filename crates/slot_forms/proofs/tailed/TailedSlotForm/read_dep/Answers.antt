use Rattle.std.proofs.Common.{◌∙◌, length, Option, sym, ap, subst}
use Rattle.fmp_slot.specs.Held.{HeldSlot, IsHeldDep, region_in, shown}
use Rattle.fmp_slot.specs.Layout.{slot_of}
use Rattle.slot_forms.specs.Tailed.{room_of}
use Rattle.slot_forms.proofs.Tails.{sealed_alike}
use Rattle.slot_forms.proofs.tailed.TailedSlotForm.read_dep.Goals as goal

pub read_dep-requires-clause-looked : goal.read_dep-requires-clause-looked
read_dep-requires-clause-looked g c = λ told.
    let bytes = (region_in c.args.device (g.F.BenchState.state c.args.flash.now)).bytes in
    ap shown (sym (sealed_alike (room_of (length bytes)) (slot_of bytes) c.args.head.now
    (c.requires.looked told))) ∙ c.requires.looked told

pub returns-clause-value : goal.returns-clause-value
returns-clause-value g c = λ told.
    let bytes = (region_in c.args.device (g.F.BenchState.state c.args.flash.now)).bytes in
    subst (λ (o : Option HeldSlot). IsHeldDep c.read_dep.new.out o)
    (sym (sealed_alike (room_of (length bytes)) (slot_of bytes) c.args.head.now
    (c.requires.looked told))) (c.in_ok-read_dep.ensures.value told)
