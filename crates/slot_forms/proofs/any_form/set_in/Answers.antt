use Rattle.std.proofs.Common.{◌≡◌, ◌+◌, ◌≤◌, ◌∙◌, ℕ, List, Bool, length, arith, ap, subst}
use Rattle.std.proofs.Common.{Result, Ok, Err}
use Rattle.fmp_slot.specs.declared.faults.SlotFault.{SlotFault}
use Rattle.fmp_slot.specs.declared.faults.SlotFault.TheVariants.{Flash, TooLarge, Apart}
use Rattle.fmp_slot.specs.declared.slot.SlotHead.{SlotHead}
use Rattle.fmp_slot.specs.Held.{HeldSlot, IsDurable, KeepsOrSeals, held, region_in}
use Rattle.fmp_slot.specs.Refusals.{FinishesAt}
use Rattle.fmp_slot.specs.Spending.{ChangesDevice}
use Rattle.fmp_slot.specs.Writing.{Places, Writing, pieces_of}
use Rattle.fmp_slot.proofs.Joins.{cause_then, changes_then, keeps_then_seals, on_ok}
use Rattle.fmp_slot.proofs.Joins.{seals_by_keeping, spends_up_to_then}
use Rattle.slot_forms.specs.Setting.{SetsOver}
use Rattle.slot_forms.proofs.any_form.set_in.Goals as goal

pub returns-in_err-writer-clause-images : goal.returns-in_err-writer-clause-images
returns-in_err-writer-clause-images g c =
    let region = region_in c.args.device in
    seals_by_keeping g.S.SlotForm.slot_of
    (held c.args.head.now c.args.dep.now c.args.payload.now)
    (region (g.F.BenchState.state c.args.flash.now)) (region (g.F.BenchState.state c.start.new.flash))
    c.start.ensures.images

pub returns-clause-images : goal.returns-clause-images
returns-clause-images g c =
    let device = c.args.device in
    let payload = c.args.payload.now in
    let slot_of = g.S.SlotForm.slot_of in
    let old = g.F.BenchState.state c.args.flash.now in
    let mid = g.F.BenchState.state c.start.new.flash in
    let new = g.F.BenchState.state c.finish.new.flash in
    keeps_then_seals slot_of (held c.args.head.now c.args.dep.now payload) (region_in device old)
    (region_in device mid) (region_in device new) c.start.ensures.images
    (subst (λ (w : Writing). KeepsOrSeals slot_of (held w.head w.dep payload)
    (region_in w.device mid) (region_in w.device new)) c.in_ok-writer.ensures.ok
    c.finish.ensures.images)

pub returns-clause-durable : goal.returns-clause-durable
returns-clause-durable g c =
    let payload = c.args.payload.now in
    let new = g.F.BenchState.state c.finish.new.flash in
    on_ok c.finish.result
    (subst (λ (w : Writing). IsDurable g.S.SlotForm.slot_of (held w.head w.dep payload)
    (region_in w.device new)) c.in_ok-writer.ensures.ok) c.finish.ensures.durable

pub returns-clause-frame : goal.returns-clause-frame
returns-clause-frame g c =
    let mid = g.F.BenchState.state c.start.new.flash in
    let new = g.F.BenchState.state c.finish.new.flash in
    changes_then (c.args.device + 2) (g.F.BenchState.state c.args.flash.now) mid new
    c.start.ensures.frame
    (subst (λ (w : Writing). ChangesDevice w.device mid new) c.in_ok-writer.ensures.ok
    c.finish.ensures.frame)

sets_by_finish : (may_write : ℕ → SlotHead → List ℕ → Places → Type 0) (told : Bool)
    (size capacity : ℕ) (s : HeldSlot) (p : Places) (r : Result Unit SlotFault)
    → may_write size s.head s.dep p → length s.payload ≤ capacity → FinishesAt told p s.payload r
    → SetsOver may_write told size capacity s r
sets_by_finish may_write told size capacity s p (Ok x) may fits h = fits
sets_by_finish may_write told size capacity s p (Err Flash) may fits h = fits
sets_by_finish may_write told size capacity s p (Err TooLarge) may fits h = absurd h
sets_by_finish may_write told size capacity s p (Err (Apart at wrote read)) may fits h =
    (fits, record { places = p; may = may; apart = h })

pub returns-clause-refused : goal.returns-clause-refused
returns-clause-refused g c = λ capacity long.
    let told = (g.F.BenchState.state c.args.flash.now).contents.told in
    let payload = c.args.payload.now in
    let s = held c.args.head.now c.args.dep.now payload in
    let places = g.S.SlotForm.places c.in_ok-writer.writer in
    let fits : length payload ≤ capacity = omega (arith, c.in_ok-writer.ensures.refused capacity long) in
    let may = subst (λ (n : ℕ). g.S.SlotForm.may_write n c.args.head.now c.args.dep.now places) long
    c.in_ok-writer.ensures.places in
    sets_by_finish g.S.SlotForm.may_write told (g.S.SlotForm.size_of capacity) capacity s places
    c.finish.result may fits
    (subst (λ (t : Bool). FinishesAt t places payload c.finish.result) c.start.ensures.frame.others.told
    c.finish.ensures.refused)

pub returns-clause-counts : goal.returns-clause-counts
returns-clause-counts g c =
    let n = pieces_of (length c.args.payload.now) in
    spends_up_to_then 2 2 (4 + n) (1 + n) (6 + n) (3 + n) c.finish.result
    (g.F.BenchState.state c.args.flash.now) (g.F.BenchState.state c.start.new.flash)
    (g.F.BenchState.state c.finish.new.flash) (omega arith) (omega arith)
    c.in_ok-writer.ensures.counts.moved c.start.ensures.counts.most_looks
    c.start.ensures.counts.others c.finish.ensures.counts

pub returns-clause-cause : goal.returns-clause-cause
returns-clause-cause g c =
    cause_then (g.F.BenchState.state c.args.flash.now).counts.flash_faults
    (g.F.BenchState.state c.start.new.flash).counts.flash_faults
    (g.F.BenchState.state c.finish.new.flash).counts.flash_faults c.finish.result
    (omega (arith, c.start.ensures.cause.later)) c.finish.ensures.cause
