use Rattle.std.proofs.Common.{◌≡◌, ◌+◌, ◌-◌, ◌%◌, ◌<◌, ◌≤◌, ◌++◌, ◌∙◌, ℕ, Bool, true, length, take}
use Rattle.std.proofs.Common.{drop, Result, Err, sym, ap, subst, rules, arith, length-take, length-drop}
use Rattle.std.proofs.lemmas.List.{take_all}
use Rattle.fmp_slot.specs.declared.faults.SlotFault.{SlotFault}
use Rattle.fmp_slot.specs.declared.limits.TheConstants.{PIECE}
use Rattle.fmp_slot.specs.Held.{KeepsSlots, region_in}
use Rattle.fmp_slot.specs.Spending.{ChangesDevice}
use Rattle.fmp_slot.specs.Writing.{Places, Writing, pieces_of}
use Rattle.fmp_slot.specs.Refusals.{ReadsBack}
use Rattle.fmp_slot.proofs.Joins.{keeps_then, changes_then, pieces_next, rises_then, taken_then}
use Rattle.fmp_slot.proofs.Joins.{writing_then}
use Rattle.fmp_slot.proofs.Payloads.{reads_back_part}
use Rattle.fmp_slot.proofs.whole.put_pieces.Goals as goal

pub returns-in_err-piece-clause-images : goal.returns-in_err-piece-clause-images
returns-in_err-piece-clause-images g c =
    let device = (g.S.SlotForm.writing c.args.writer.now).device in
    let old = g.F.BenchState.state c.args.flash.now in
    let mid = g.F.BenchState.state c.loop-at.flash in
    let new = g.F.BenchState.state c.piece.new.flash in
    let same : (g.S.SlotForm.writing c.loop-at.writer).device ≡ device =
    ap (λ (w : Writing). w.device) c.loop-at.invariant.writing in
    keeps_then g.S.SlotForm.slot_of (region_in device old) (region_in device mid)
    (region_in device new)
    c.loop-at.invariant.images
    (subst (λ (d : ℕ). KeepsSlots g.S.SlotForm.slot_of (region_in d mid) (region_in d new)) same
    c.piece.ensures.images)

pub returns-in_err-piece-clause-frame : goal.returns-in_err-piece-clause-frame
returns-in_err-piece-clause-frame g c =
    let device = (g.S.SlotForm.writing c.args.writer.now).device in
    let mid = g.F.BenchState.state c.loop-at.flash in
    let new = g.F.BenchState.state c.piece.new.flash in
    let same : (g.S.SlotForm.writing c.loop-at.writer).device ≡ device =
    ap (λ (w : Writing). w.device) c.loop-at.invariant.writing in
    changes_then (device + 2) (g.F.BenchState.state c.args.flash.now) mid new
    c.loop-at.invariant.frame
    (subst (λ (d : ℕ). ChangesDevice d mid new) same c.piece.ensures.frame)

pub returns-in_err-piece-clause-refused : goal.returns-in_err-piece-clause-refused
returns-in_err-piece-clause-refused g c =
    let told = (g.F.BenchState.state c.args.flash.now).contents.told in
    let from = (g.S.SlotForm.places c.args.writer.now).payload_at in
    let first = g.S.SlotForm.writing c.args.writer.now in
    let at = c.loop-at.at in
    let end = c.min-end.result in
    let payload = c.args.payload.now in
    let part = take (end - at) (drop at payload) in
    let fault = c.in_err-piece.field-0.0 in
    let failed : Result Unit SlotFault = Err fault in
    let gives : c.from_residual.result ≡ Err fault = search rules in
    let inv = c.loop-at.invariant in
    let count : (g.S.SlotForm.writing c.loop-at.writer).taken ≡ at =
    ap (λ (w : Writing). w.taken) inv.writing ∙ omega arith in
    let by_told : ReadsBack told ((g.S.SlotForm.places c.loop-at.writer).payload_at
    + (g.S.SlotForm.writing c.loop-at.writer).taken) part failed =
    subst (λ (t : Bool). ReadsBack t ((g.S.SlotForm.places c.loop-at.writer).payload_at
    + (g.S.SlotForm.writing c.loop-at.writer).taken) part failed) inv.frame.others.told
    c.in_err-piece.ensures.refused in
    let by_place : ReadsBack told (from + at) part failed =
    subst (λ (n : ℕ). ReadsBack told (from + n) part failed) count
    (subst (λ (p : Places). ReadsBack told (p.payload_at
    + (g.S.SlotForm.writing c.loop-at.writer).taken) part failed) inv.places by_told) in
    subst (λ (r : Result Unit SlotFault). ReadsBack told from payload r) (sym gives)
    (reads_back_part told from at (end - at) payload failed by_place)

pub loop-at-preserved : goal.loop-at-preserved
loop-at-preserved g c =
    let first = g.S.SlotForm.writing c.args.writer.now in
    let before = c.loop-at.writer in
    let after = c.piece.new.writer in
    let device = first.device in
    let old = g.F.BenchState.state c.args.flash.now in
    let mid = g.F.BenchState.state c.loop-at.flash in
    let new = g.F.BenchState.state c.piece.new.flash in
    let at = c.loop-at.at in
    let end = c.min-end.result in
    let payload = c.args.payload.now in
    let part = take (end - at) (drop at payload) in
    let inv = c.loop-at.invariant in
    let ok = c.in_ok-piece.ensures in
    let below : at < length payload = omega arith in
    let cut : at % PIECE ≡ 0 = inv.cut below in
    let low : at < end = omega arith in
    let high : end ≤ at + PIECE = omega arith in
    let top : end ≤ length payload = omega arith in
    let long : length part ≡ end - at =
    omega (arith, length-take (end - at) (drop at payload), length-drop at payload) in
    let same : (g.S.SlotForm.writing before).device ≡ device =
    ap (λ (w : Writing). w.device) inv.writing in
    let writing = writing_then (g.S.SlotForm.writing after) (g.S.SlotForm.writing before) first at
    end (length part) ok.ok inv.writing (omega arith) in
    let count = pieces_next at end cut low high in
    record {
      within = top;
      cut = λ more. omega arith;
      writing = writing;
      places = c.piece.ensures.places ∙ inv.places;
      underway = subst (λ (d : ℕ). g.S.SlotForm.underway after (region_in d new)) same ok.underway;
      taken = λ told.
          let told_mid : mid.contents.told ≡ true = inv.frame.others.told ∙ told in
          let more = ok.taken told_mid in
          let at_device : g.S.SlotForm.taken after (region_in device new).bytes
          ≡ g.S.SlotForm.taken before (region_in device mid).bytes ++ part =
          subst (λ (d : ℕ). g.S.SlotForm.taken after (region_in d new).bytes
          ≡ g.S.SlotForm.taken before (region_in d mid).bytes ++ part) same more in
          at_device ∙ taken_then at end payload _ (omega arith) (inv.taken told);
      images = keeps_then g.S.SlotForm.slot_of (region_in device old) (region_in device mid)
          (region_in device new) inv.images
          (subst (λ (d : ℕ). KeepsSlots g.S.SlotForm.slot_of (region_in d mid) (region_in d new))
          same c.piece.ensures.images);
      frame = changes_then (device + 2) old mid new inv.frame
          (subst (λ (d : ℕ). ChangesDevice d mid new) same c.piece.ensures.frame);
      moves = rises_then (pieces_of at) 1 (pieces_of end) _ _ _ count inv.moves ok.counts.moved;
      looks = rises_then (pieces_of at) 1 (pieces_of end) _ _ _ count inv.looks ok.counts.looked;
      others = c.piece.ensures.counts.others ∙ inv.others;
      later = omega (arith, inv.later, c.piece.ensures.cause.later);
    }

pub returns-clause-taken : goal.returns-clause-taken
returns-clause-taken g c = λ told.
    let payload = c.args.payload.now in
    let writer = c.loop-at.writer in
    let region = region_in (g.S.SlotForm.writing c.args.writer.now).device
    (g.F.BenchState.state c.loop-at.flash) in
    let whole : c.loop-at.at ≡ length payload = omega (arith, c.loop-at.invariant.within) in
    subst (λ (n : ℕ). g.S.SlotForm.taken writer region.bytes ≡ take n payload) whole
    (c.loop-at.invariant.taken told)
    ∙ take_all (length payload) payload (omega arith)
