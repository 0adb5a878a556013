-- The report of a boot tells how many of its steps were done.
use Rattle.std.proofs.Common.{◌≡◌, ◌⊎◌, inl, inr, ℕ, zero, suc, ◌+◌, ◌*◌, List, [], ◌∷◌, length}
use Rattle.std.proofs.Common.{refl}
use Rattle.std.proofs.Common.{sym, ◌∙◌, ap, subst, arith, Option, None, Some}
use Rattle.reference_machine.specs.Boots.{BootState, BootTask, Course, after, after_steps}
use Rattle.reference_machine.specs.Boots.{after_unit}
use Rattle.reference_machine.specs.Boots.{boot_at, boot_of, boot_start, boot_tasks, course_of, next}
use Rattle.reference_machine.specs.Boots.BootBatch.{Settles, Unstages, Does, Prunes, Clears}
use Rattle.reference_machine.specs.Boots.BootTask.{Commits, Removes}
use Rattle.reference_machine.specs.Boots.Course.{Claim, Close}
use Rattle.reference_machine.specs.Deliveries.{BootUnit}
use Rattle.reference_machine.specs.Formats.{Formats}
use Rattle.reference_machine.specs.Machine.{Machine}
use Rattle.reference_machine.specs.Report.{ReportValue}
use Rattle.reference_machine.specs.Stops.{Agrees, StopCause}
use Rattle.reference_machine.specs.Stops.StopCause.{Flash, Volume, Memory}
use Rattle.reference_machine.specs.declared.unit.End.{End}
use Rattle.reference_machine.proofs.Ending.{boot_ends}
use Rattle.cap_boot.specs.Situations.{StopsAt, StopsByFlash}
use Rattle.cap_boot.proofs.Onward.{more_steps}

unit_steps : (f : Formats) (b : BootState) (u : BootUnit) (rest : List BootTask) (c : Course)
    → (after_unit f b u rest c).report.steps ≡ b.report.steps + 1
unit_steps f b u rest Claim = refl
unit_steps f b u rest (Close end) = refl

-- a step is counted, where there is one
pub counted : (f : Formats) (b : BootState) (left : List BootTask)
    → (after f b left ≡ b) ⊎ ((after f b left).report.steps ≡ b.report.steps + 1)
counted f b [] = inl refl
counted f b (Commits (Settles kind end) ∷ rest) = inr refl
counted f b (Commits (Unstages pair) ∷ rest) = inr refl
counted f b (Commits (Does u) ∷ rest) =
    inr (unit_steps f b u rest (course_of f b.machine u u.kind))
counted f b (Commits Prunes ∷ rest) = inr refl
counted f b (Removes serial ∷ rest) = inr refl
counted f b (Commits Clears ∷ rest) = inr refl

-- the steps that a report counts lead to the state that has it
pub at_its_count : (f : Formats) (m : Machine) (h : End) (j : ℕ)
    → boot_at f m h (boot_at f m h j).report.steps ≡ boot_at f m h j
at_its_count f m h zero = refl
at_its_count f m h (suc j) =
    let b = boot_at f m h j in
    let before : boot_at f m h b.report.steps ≡ b = at_its_count f m h j in
    elim (counted f b b.left) [
      | inl same ↦ ap (λ (c : BootState). boot_at f m h c.report.steps) same ∙ before ∙ sym same
      | inr up ↦ ap (boot_at f m h) (up ∙ (let e : b.report.steps + 1 ≡ suc b.report.steps =
          omega arith in e)) ∙ ap (next f) before
    ]

flash_agrees : (f : Formats) (m : Machine) (h : End) (r : ReportValue) (pending : Option ℕ)
    (new : Machine) → r.pending ≡ pending
    → record r { pending = None } ≡ (boot_at f m h r.steps).report
    → StopsByFlash f (boot_at f m h r.steps) pending new → Agrees f m h r Flash new
flash_agrees f m h r None new is report stops =
    (report, subst (λ (p : Option ℕ). StopsByFlash f (boot_at f m h r.steps) p new) (sym is) stops)
flash_agrees f m h r (Some number) new is report stops =
    (report, subst (λ (p : Option ℕ). StopsByFlash f (boot_at f m h r.steps) p new) (sym is) stops)

agrees_there : (f : Formats) (m : Machine) (h : End) (r : ReportValue) (cause : StopCause)
    (new : Machine) → StopsAt f m (boot_at f m h r.steps) r cause new → Agrees f m h r cause new
agrees_there f m h r Flash new s = flash_agrees f m h r r.pending new refl s.0 s.1
agrees_there f m h r Volume new s = s
agrees_there f m h r Memory new s = s

steps_told : (f : Formats) (m : Machine) (b : BootState) (r : ReportValue) (cause : StopCause)
    (new : Machine) → StopsAt f m b r cause new → r.steps ≡ b.report.steps
steps_told f m b r Flash new s = ap (λ (q : ReportValue). q.steps) s.0
steps_told f m b r Volume new s = ap (λ (q : ReportValue). q.steps) s.0
steps_told f m b r Memory new s = ap (λ (q : ReportValue). q.steps) s.0

-- where a boot stops, its report agrees
pub stop_agrees : (f : Formats) (m : Machine) (h : End) (j : ℕ) (b : BootState)
    → b ≡ boot_at f m h j → (r : ReportValue) (cause : StopCause) (new : Machine)
    → StopsAt f m b r cause new → Agrees f m h r cause new
stop_agrees f m h j b is r cause new s =
    let there : b ≡ boot_at f m h r.steps =
    is ∙ sym (at_its_count f m h j)
    ∙ ap (λ (c : BootState). boot_at f m h c.report.steps) (sym is)
    ∙ ap (boot_at f m h) (sym (steps_told f m b r cause new s)) in
    agrees_there f m h r cause new (subst (λ (c : BootState). StopsAt f m c r cause new) there s)

-- where nothing is left, further steps do nothing
pub rests : (f : Formats) (k : ℕ) (b : BootState) → b.left ≡ [] → after_steps f k b ≡ b
rests f zero b none = refl
rests f (suc k) b none = ap (next f) (rests f k b none) ∙ ap (after f b) none

-- a boot of which nothing is left is whole
pub whole : (f : Formats) (m : Machine) (h : End) (j : ℕ) → (boot_at f m h j).left ≡ []
    → boot_at f m h j ≡ boot_of f m h
whole f m h j none =
    let n = 2 * length (boot_tasks f m h) in
    let more : after_steps f n (boot_at f m h j) ≡ boot_at f m h j =
    rests f n (boot_at f m h j) none in
    let ends : after_steps f j (boot_of f m h) ≡ boot_of f m h =
    rests f j (boot_of f m h) (boot_ends f m h) in
    sym more ∙ more_steps f n j (boot_start f m h)
    ∙ ap (boot_at f m h) (let e : n + j ≡ j + n = omega arith in e)
    ∙ sym (more_steps f j n (boot_start f m h)) ∙ ends
