use Rattle.std.proofs.Common.{◌≡◌, ◌+◌, ◌-◌, ◌≤◌, ◌∙◌, ℕ, List, length, arith, ap, subst}
use Rattle.bench_model.specs.declared.outside_limits.TheConstants.{SLOT_LEAD}
use Rattle.fmp_slot.specs.Held.{IsDurable, KeepsOrSeals, held, region_in}
use Rattle.fmp_slot.specs.Layout.{slot_of}
use Rattle.fmp_slot.specs.Refusals.{FinishesAt}
use Rattle.fmp_slot.specs.Spending.{ChangesDevice}
use Rattle.fmp_slot.specs.Writers.{places_of, writing_of}
use Rattle.fmp_slot.specs.Writing.{Places, Writing, pieces_of}
use Rattle.fmp_slot.proofs.Joins.{cause_then, changes_then, keeps_then_seals, on_ok}
use Rattle.fmp_slot.proofs.Joins.{seals_by_keeping, spends_then}
use Rattle.fmp_slot.proofs.Payloads.{sets_by_finish}
use Rattle.fmp_slot.proofs.one_bank.set_image.Goals as goal

pub returns-in_err-writer-clause-images : goal.returns-in_err-writer-clause-images
returns-in_err-writer-clause-images g c =
    let region = region_in c.args.device in
    seals_by_keeping slot_of (held c.args.head.now c.args.dep.now c.args.payload.now)
    (region (g.F.BenchState.state c.args.flash.now)) (region (g.F.BenchState.state c.start.new.flash))
    c.start.ensures.images

pub returns-clause-images : goal.returns-clause-images
returns-clause-images g c =
    let device = c.args.device in
    let payload = c.args.payload.now in
    let old = g.F.BenchState.state c.args.flash.now in
    let mid = g.F.BenchState.state c.start.new.flash in
    let new = g.F.BenchState.state c.finish.new.flash in
    keeps_then_seals slot_of (held c.args.head.now c.args.dep.now payload) (region_in device old)
    (region_in device mid) (region_in device new) c.start.ensures.images
    (subst (λ (w : Writing). KeepsOrSeals slot_of (held w.head w.dep payload)
    (region_in w.device mid) (region_in w.device new)) c.in_ok-writer.ensures.ok
    c.finish.ensures.images)

pub returns-clause-durable : goal.returns-clause-durable
returns-clause-durable g c =
    let payload = c.args.payload.now in
    let new = g.F.BenchState.state c.finish.new.flash in
    on_ok c.finish.result
    (subst (λ (w : Writing). IsDurable slot_of (held w.head w.dep payload) (region_in w.device new))
    c.in_ok-writer.ensures.ok) c.finish.ensures.durable

pub returns-clause-frame : goal.returns-clause-frame
returns-clause-frame g c =
    let mid = g.F.BenchState.state c.start.new.flash in
    let new = g.F.BenchState.state c.finish.new.flash in
    changes_then (c.args.device + 2) (g.F.BenchState.state c.args.flash.now) mid new
    c.start.ensures.frame
    (subst (λ (w : Writing). ChangesDevice w.device mid new) c.in_ok-writer.ensures.ok
    c.finish.ensures.frame)

pub returns-clause-refused : goal.returns-clause-refused
returns-clause-refused g c =
    let old = g.F.BenchState.state c.args.flash.now in
    let told = old.contents.told in
    let payload = c.args.payload.now in
    let capacity = length (region_in c.args.device old).bytes - SLOT_LEAD in
    let fits : length payload ≤ capacity = omega (arith, c.in_ok-writer.ensures.refused) in
    sets_by_finish capacity told (held c.args.head.now c.args.dep.now payload) c.finish.result fits
    (subst (λ (p : Places). FinishesAt told p payload c.finish.result) c.in_ok-writer.ensures.places
    (subst (λ t. FinishesAt t (places_of c.in_ok-writer.writer) payload c.finish.result)
    c.start.ensures.frame.others.told c.finish.ensures.refused))

pub returns-clause-counts : goal.returns-clause-counts
returns-clause-counts g c =
    let n = pieces_of (length c.args.payload.now) in
    spends_then 2 1 (4 + n) (1 + n) (6 + n) (2 + n) c.finish.result
    (g.F.BenchState.state c.args.flash.now) (g.F.BenchState.state c.start.new.flash)
    (g.F.BenchState.state c.finish.new.flash) (omega arith) (omega arith)
    c.in_ok-writer.ensures.counts.moved c.in_ok-writer.ensures.counts.looked
    c.start.ensures.counts.others c.finish.ensures.counts

pub returns-clause-cause : goal.returns-clause-cause
returns-clause-cause g c =
    cause_then (g.F.BenchState.state c.args.flash.now).counts.flash_faults
    (g.F.BenchState.state c.start.new.flash).counts.flash_faults
    (g.F.BenchState.state c.finish.new.flash).counts.flash_faults c.finish.result
    (omega (arith, c.start.ensures.cause.later)) c.finish.ensures.cause
