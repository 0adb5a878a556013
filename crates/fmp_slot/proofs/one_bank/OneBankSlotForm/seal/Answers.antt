use Rattle.std.proofs.Common.{◌≡◌, ◌+◌, ℕ, List, sym, subst, length, take, true, arith}
use Rattle.std.proofs.Common.{length-take, Result, Err, refl, rules}
use Rattle.bench_model.specs.Bench.{BenchValue, region_at}
use Rattle.fmp_slot.specs.declared.faults.SlotFault.{SlotFault}
use Rattle.fmp_slot.specs.Held.{held}
use Rattle.fmp_slot.specs.Layout.{front_bytes}
use Rattle.fmp_slot.specs.Refusals.{ReadsBack}
use Rattle.fmp_slot.specs.Writing.{IsReceived, payload_so_far}
use Rattle.fmp_slot.specs.Layout.{slot_of}
use Rattle.fmp_slot.proofs.Fronts.{front_written, received_by_front}
use Rattle.fmp_slot.proofs.Joins.{back_alone, cause_then, changes_then, keeps_then_seals}
use Rattle.fmp_slot.proofs.Joins.{on_ok, seals_by_keeping, spends_then}
use Rattle.fmp_slot.proofs.one_bank.OneBankSlotForm.seal.Goals as goal

pub returns-in_err-put_front-clause-images : goal.returns-in_err-put_front-clause-images
returns-in_err-put_front-clause-images g c =
    let w = c.args.writer in
    let at = λ (b : BenchValue). region_at b.contents (w.device + 2) in
    let old = at (g.F.BenchState.state c.args.flash.now) in
    let s = held w.head (take w.head.dep_length w.dep) (payload_so_far w.taken old.bytes) in
    seals_by_keeping slot_of s old (at (g.F.BenchState.state c.put_front.new.flash)) c.put_front.ensures.images

pub returns-in_err-put_front-clause-refused : goal.returns-in_err-put_front-clause-refused
returns-in_err-put_front-clause-refused g c =
    let w = c.args.writer in
    let n = w.head.dep_length in
    let kept = take n w.dep in
    let long : length kept ≡ n = omega (arith, length-take n w.dep) in
    let is = front_written c.front-front.result kept w.head n long c.front-front.ensures in
    let told = (g.F.BenchState.state c.args.flash.now).contents.told in
    let fault = c.in_err-put_front.field-0.0 in
    let gives : c.from_residual.result ≡ Err fault = search rules in
    let failed : Result Unit SlotFault = Err fault in
    let refused : ReadsBack told 1 (front_bytes w.head kept) failed =
    subst (λ (f : List ℕ). ReadsBack told 1 f failed) is c.in_err-put_front.ensures.refused in
    subst (λ (r : Result Unit SlotFault). ReadsBack told 1 (front_bytes w.head kept) r) (sym gives)
    refused

pub returns-clause-images : goal.returns-clause-images
returns-clause-images g c =
    let w = c.args.writer in
    let n = w.head.dep_length in
    let kept = take n w.dep in
    let at = λ (b : BenchValue). region_at b.contents (w.device + 2) in
    let old = at (g.F.BenchState.state c.args.flash.now) in
    let mid = at (g.F.BenchState.state c.put_front.new.flash) in
    let new = at (g.F.BenchState.state c.put_seal.new.flash) in
    let s = held w.head kept (payload_so_far w.taken old.bytes) in
    let long : length kept ≡ n = omega (arith, length-take n w.dep) in
    let is = front_written c.front-front.result kept w.head n long c.front-front.ensures in
    let received : mid.told ≡ true → IsReceived s mid.bytes =
    received_by_front w.head kept _ w.taken old mid c.widths.ensures (sym long) (omega arith)
    c.requires.whole (omega (arith, c.requires.underway.room)) c.put_front.ensures.frame.long is
    c.in_ok-put_front.ensures.ok in
    keeps_then_seals slot_of s old mid new c.put_front.ensures.images (c.put_seal.ensures.images s received)

pub returns-clause-durable : goal.returns-clause-durable
returns-clause-durable g c =
    let w = c.args.writer in
    let n = w.head.dep_length in
    let kept = take n w.dep in
    let at = λ (b : BenchValue). region_at b.contents (w.device + 2) in
    let old = at (g.F.BenchState.state c.args.flash.now) in
    let mid = at (g.F.BenchState.state c.put_front.new.flash) in
    let s = held w.head kept (payload_so_far w.taken old.bytes) in
    let long : length kept ≡ n = omega (arith, length-take n w.dep) in
    let is = front_written c.front-front.result kept w.head n long c.front-front.ensures in
    let received : mid.told ≡ true → IsReceived s mid.bytes =
    received_by_front w.head kept _ w.taken old mid c.widths.ensures (sym long) (omega arith)
    c.requires.whole (omega (arith, c.requires.underway.room)) c.put_front.ensures.frame.long is
    c.in_ok-put_front.ensures.ok in
    on_ok c.put_seal.result (λ made. made s received) c.put_seal.ensures.durable

pub returns-clause-frame : goal.returns-clause-frame
returns-clause-frame g c =
    changes_then (c.args.writer.device + 2) (g.F.BenchState.state c.args.flash.now)
    (g.F.BenchState.state c.put_front.new.flash) (g.F.BenchState.state c.put_seal.new.flash)
    c.put_front.ensures.frame c.put_seal.ensures.frame

pub returns-clause-refused : goal.returns-clause-refused
returns-clause-refused g c =
    let w = c.args.writer in
    back_alone (g.F.BenchState.state c.args.flash.now).contents.told 1
    (front_bytes w.head (take w.head.dep_length w.dep)) c.put_seal.result c.put_seal.ensures.refused

pub returns-clause-counts : goal.returns-clause-counts
returns-clause-counts g c =
    spends_then 2 1 2 0 4 1 c.put_seal.result (g.F.BenchState.state c.args.flash.now)
    (g.F.BenchState.state c.put_front.new.flash) (g.F.BenchState.state c.put_seal.new.flash) refl refl
    c.in_ok-put_front.ensures.counts.moved c.in_ok-put_front.ensures.counts.looked
    c.put_front.ensures.counts.others c.put_seal.ensures.counts

pub returns-clause-cause : goal.returns-clause-cause
returns-clause-cause g c =
    cause_then (g.F.BenchState.state c.args.flash.now).counts.flash_faults
    (g.F.BenchState.state c.put_front.new.flash).counts.flash_faults
    (g.F.BenchState.state c.put_seal.new.flash).counts.flash_faults c.put_seal.result
    (omega (arith, c.put_front.ensures.cause.later)) c.put_seal.ensures.cause
