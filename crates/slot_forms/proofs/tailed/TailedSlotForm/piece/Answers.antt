use Rattle.fmp_slot.specs.Held.{region_in}
use Rattle.slot_forms.proofs.Tails.{keeps_within}
use Rattle.slot_forms.proofs.tailed.TailedSlotForm.piece.Goals as goal

pub returns-clause-images : goal.returns-clause-images
returns-clause-images g c =
    let device = c.args.writer.now.device in
    keeps_within (region_in device (g.F.BenchState.state c.args.flash.now))
    (region_in device (g.F.BenchState.state c.piece.new.flash)) c.piece.ensures.frame.long
    c.piece.ensures.images
