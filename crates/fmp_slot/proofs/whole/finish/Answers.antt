use Rattle.std.proofs.Common.{◌≡◌, ◌+◌, ◌≤◌, ◌∙◌, ℕ, Bool, List, true, length, Result, Err, sym, ap}
use Rattle.std.proofs.Common.{subst, rules, arith}
use Rattle.fmp_slot.specs.declared.faults.SlotFault.{SlotFault}
use Rattle.fmp_slot.specs.Held.{held, region_in}
use Rattle.fmp_slot.specs.Refusals.{FinishesAt, ReadsBack}
use Rattle.fmp_slot.specs.Spending.{ChangesDevice}
use Rattle.fmp_slot.specs.Writing.{Places, Writing, more_taken, pieces_of}
use Rattle.fmp_slot.proofs.Joins.{seals_by_keeping, changes_then, cause_then, on_ok, spends_then}
use Rattle.fmp_slot.proofs.Joins.{seals_whole, durable_whole}
use Rattle.fmp_slot.proofs.Payloads.{finishes_by_front, finishes_by_piece}
use Rattle.fmp_slot.proofs.whole.finish.Goals as goal

pub returns-in_err-put_pieces-clause-images : goal.returns-in_err-put_pieces-clause-images
returns-in_err-put_pieces-clause-images g c =
    let w = g.S.SlotForm.writing c.args.writer in
    seals_by_keeping g.S.SlotForm.slot_of (held w.head w.dep c.args.payload.now)
    (region_in w.device (g.F.BenchState.state c.args.flash.now))
    (region_in w.device (g.F.BenchState.state c.put_pieces.new.flash)) c.put_pieces.ensures.images

pub returns-in_err-put_pieces-clause-refused : goal.returns-in_err-put_pieces-clause-refused
returns-in_err-put_pieces-clause-refused g c =
    let told = (g.F.BenchState.state c.args.flash.now).contents.told in
    let places = g.S.SlotForm.places c.args.writer in
    let fault = c.in_err-put_pieces.field-0.0 in
    let failed : Result Unit SlotFault = Err fault in
    let gives : c.from_residual.result ≡ Err fault = search rules in
    subst (λ (r : Result Unit SlotFault). FinishesAt told places c.args.payload.now r) (sym gives)
    (finishes_by_piece told places c.args.payload.now failed c.in_err-put_pieces.ensures.refused)

pub returns-clause-images : goal.returns-clause-images
returns-clause-images g c =
    let w = g.S.SlotForm.writing c.args.writer in
    let payload = c.args.payload.now in
    let old = g.F.BenchState.state c.args.flash.now in
    let mid = g.F.BenchState.state c.put_pieces.new.flash in
    let new = g.F.BenchState.state c.seal.new.flash in
    let writer = c.put_pieces.new.writer in
    let last = g.S.SlotForm.writing writer in
    let bytes = g.S.SlotForm.taken writer (region_in last.device mid).bytes in
    let done : last ≡ more_taken w (length payload) = c.in_ok-put_pieces.ensures.ok in
    let all : mid.contents.told ≡ true → bytes ≡ payload =
    λ told. subst (λ (d : ℕ). g.S.SlotForm.taken writer (region_in d mid).bytes ≡ payload)
    (sym (ap (λ (u : Writing). u.device) done))
    (c.in_ok-put_pieces.ensures.taken (sym c.put_pieces.ensures.frame.others.told ∙ told)) in
    seals_whole g.S.SlotForm.slot_of w last (length payload) payload bytes old mid new done all
    c.seal.ensures.frame.others.told c.put_pieces.ensures.images c.seal.ensures.images

pub returns-clause-durable : goal.returns-clause-durable
returns-clause-durable g c =
    let w = g.S.SlotForm.writing c.args.writer in
    let payload = c.args.payload.now in
    let mid = g.F.BenchState.state c.put_pieces.new.flash in
    let new = g.F.BenchState.state c.seal.new.flash in
    let writer = c.put_pieces.new.writer in
    let last = g.S.SlotForm.writing writer in
    let bytes = g.S.SlotForm.taken writer (region_in last.device mid).bytes in
    let done : last ≡ more_taken w (length payload) = c.in_ok-put_pieces.ensures.ok in
    let all : mid.contents.told ≡ true → bytes ≡ payload =
    λ told. subst (λ (d : ℕ). g.S.SlotForm.taken writer (region_in d mid).bytes ≡ payload)
    (sym (ap (λ (u : Writing). u.device) done))
    (c.in_ok-put_pieces.ensures.taken (sym c.put_pieces.ensures.frame.others.told ∙ told)) in
    on_ok c.seal.result
    (durable_whole g.S.SlotForm.slot_of w last (length payload) payload bytes mid new done all
    c.seal.ensures.frame.others.told) c.seal.ensures.durable

pub returns-clause-frame : goal.returns-clause-frame
returns-clause-frame g c =
    let w = g.S.SlotForm.writing c.args.writer in
    let mid = g.F.BenchState.state c.put_pieces.new.flash in
    let new = g.F.BenchState.state c.seal.new.flash in
    let done : g.S.SlotForm.writing c.put_pieces.new.writer
    ≡ more_taken w (length c.args.payload.now) = c.in_ok-put_pieces.ensures.ok in
    changes_then (w.device + 2) (g.F.BenchState.state c.args.flash.now) mid new
    c.put_pieces.ensures.frame
    (subst (λ (u : Writing). ChangesDevice u.device mid new) done c.seal.ensures.frame)

pub returns-clause-refused : goal.returns-clause-refused
returns-clause-refused g c =
    let told = (g.F.BenchState.state c.args.flash.now).contents.told in
    let first = g.S.SlotForm.places c.args.writer in
    let by_told : ReadsBack told (g.S.SlotForm.places c.put_pieces.new.writer).front_at
    (g.S.SlotForm.places c.put_pieces.new.writer).front c.seal.result =
    subst (λ (t : Bool). ReadsBack t (g.S.SlotForm.places c.put_pieces.new.writer).front_at
    (g.S.SlotForm.places c.put_pieces.new.writer).front c.seal.result)
    c.put_pieces.ensures.frame.others.told c.seal.ensures.refused in
    finishes_by_front told first c.args.payload.now c.seal.result
    (subst (λ (p : Places). ReadsBack told p.front_at p.front c.seal.result)
    c.put_pieces.ensures.places by_told)

pub returns-clause-counts : goal.returns-clause-counts
returns-clause-counts g c =
    let n = pieces_of (length c.args.payload.now) in
    let spent = c.put_pieces.ensures.counts in
    spends_then n n 4 1 (4 + n) (1 + n) c.seal.result (g.F.BenchState.state c.args.flash.now)
    (g.F.BenchState.state c.put_pieces.new.flash) (g.F.BenchState.state c.seal.new.flash)
    (omega arith) (omega arith)
    c.in_ok-put_pieces.ensures.counts.moved c.in_ok-put_pieces.ensures.counts.looked
    spent.others c.seal.ensures.counts

pub returns-clause-cause : goal.returns-clause-cause
returns-clause-cause g c =
    cause_then (g.F.BenchState.state c.args.flash.now).counts.flash_faults
    (g.F.BenchState.state c.put_pieces.new.flash).counts.flash_faults
    (g.F.BenchState.state c.seal.new.flash).counts.flash_faults c.seal.result
    (omega (arith, c.put_pieces.ensures.cause.later)) c.seal.ensures.cause
