use Rattle.std.proofs.Common.{sym, subst}
use Rattle.bench_model.specs.Bench.{Contents, region_at}
use Rattle.fmp_slot.specs.Held.{KeepsSlots}
use Rattle.fmp_slot.specs.Layout.{slot_of}
use Rattle.fmp_slot.proofs.SlotImages.{keeps_then_sync}
use Rattle.fmp_slot.proofs.moves.put_front.Goals as goal

pub returns-in_err-read_back-clause-images : goal.returns-in_err-read_back-clause-images
returns-in_err-read_back-clause-images g c =
    let at = λ (s : Contents). region_at s c.args.region in
    let state = g.F.BenchState.state in
    subst (λ (s : Contents). KeepsSlots slot_of (at (state c.args.flash.now).contents) (at s))
    (sym c.read_back.ensures.frame.contents)
    (keeps_then_sync (at (state c.args.flash.now).contents) (at (state c.put.new.flash).contents)
    (at (state c.sync.new.self).contents) c.put.ensures.images c.sync.ensures.writes)

pub returns-clause-images : goal.returns-clause-images
returns-clause-images g c =
    let at = λ (s : Contents). region_at s c.args.region in
    let state = g.F.BenchState.state in
    subst (λ (s : Contents). KeepsSlots slot_of (at (state c.args.flash.now).contents) (at s))
    (sym c.read_back.ensures.frame.contents)
    (keeps_then_sync (at (state c.args.flash.now).contents) (at (state c.put.new.flash).contents)
    (at (state c.sync.new.self).contents) c.put.ensures.images c.sync.ensures.writes)
