use Rattle.std.proofs.Common.{◌∙◌, ◌+◌, ◌-◌, ℕ, length, ap}
use Rattle.bench_model.specs.declared.outside_limits.TheConstants.{SLOT_LEAD}
use Rattle.fmp_slot.specs.Held.{region_in}
use Rattle.fmp_slot.specs.Layout.{slot_of}
use Rattle.slot_forms.specs.declared.tailed.TheConstants.{TAIL}
use Rattle.slot_forms.specs.Tailed.{look_within, room_of}
use Rattle.slot_forms.proofs.Tails.{shown_within}
use Rattle.slot_forms.proofs.tailed.TailedSlotForm.look.Goals as goal

pub returns-clause-value : goal.returns-clause-value
returns-clause-value g c = λ told.
    let bytes = (region_in c.args.device (g.F.BenchState.state c.args.flash.now)).bytes in
    let room = room_of (length bytes) in
    c.within.ensures
    ∙ ap (λ (n : ℕ). look_within (n - (SLOT_LEAD + TAIL)) c.in_ok-slot.slot) c.size.ensures.value
    ∙ ap (look_within room) (c.in_ok-slot.ensures.value told) ∙ shown_within room (slot_of bytes)
