-- A boot that nothing stops comes to the same as its work done piece by piece.
use Rattle.std.proofs.Common.{◌≡◌, ℕ, zero, suc, ◌+◌, ◌*◌, ◌≤◌, List, [], ◌∷◌, ◌++◌, length, refl}
use Rattle.std.proofs.Common.{arith, ap, ◌∙◌}
use Rattle.reference_machine.specs.declared.unit.End.{End}
use Rattle.reference_machine.specs.Boots.{BootTask, BootState, Course, after_unit, next}
use Rattle.reference_machine.specs.Boots.{after_steps, boot_start, boot_of, boot_tasks, course_of}
use Rattle.reference_machine.specs.Boots.BootTask.{Commits, Removes}
use Rattle.reference_machine.specs.Boots.BootBatch.{Settles, Unstages, Does, Prunes, Clears}
use Rattle.reference_machine.specs.Boots.Course.{Claim, Close}
use Rattle.reference_machine.specs.Deliveries.{BootUnit}
use Rattle.reference_machine.specs.Formats.{Formats}
use Rattle.reference_machine.specs.Machine.{Machine}
use Rattle.reference_machine.specs.Report.{ReportValue}
use Rattle.reset_play.specs.Whole.{task_done, tasks_done}
use Rattle.reference_machine.proofs.Ending.{weight, weight_most}

-- the first step, and then the others
steps_first : (f : Formats) (n : ℕ) (b : BootState)
    → after_steps f (suc n) b ≡ after_steps f n (next f b)
steps_first f zero b = refl
steps_first f (suc n) b = ap (next f) (steps_first f n b)

abbrev pub progress : Machine → List BootTask → ReportValue → BootState
progress m left r = record { machine = m; left = left; report = r }

ended_stays : (f : Formats) (n : ℕ) (m : Machine) (r : ReportValue)
    → after_steps f n (progress m [] r) ≡ progress m [] r
ended_stays f zero m r = refl
ended_stays f (suc n) m r = ap (next f) (ended_stays f n m r)

abbrev Finishes : Formats → List BootTask → Type 0
Finishes f left =
    (n : ℕ) (m : Machine) (r : ReportValue) → weight left ≤ n
    → after_steps f n (progress m left r) ≡ tasks_done f (progress m [] r) left

unit_steps : (f : Formats) (u : BootUnit) (rest : List BootTask) → Finishes f rest
    → (n : ℕ) (m : Machine) (r : ReportValue) (c : Course) → weight rest + 1 ≤ n
    → after_steps f n (after_unit f (progress m (Commits (Does u) ∷ rest) r) u rest c)
    ≡ tasks_done f (next f (after_unit f (progress m (Commits (Does u) ∷ []) r) u [] c)) rest
unit_steps f u rest ih zero m r c h = absurd (omega arith)
unit_steps f u rest ih (suc n) m r Claim h =
    let p : BootState = after_unit f (progress m (Commits (Does u) ∷ rest) r) u rest Claim in
    let b : BootState = next f p in
    let le : weight rest ≤ n = omega arith in
    steps_first f n p ∙ ih n b.machine b.report le
unit_steps f u rest ih (suc n) m r (Close end) h =
    let b : BootState = after_unit f (progress m (Commits (Does u) ∷ rest) r) u rest (Close end) in
    let le : weight rest ≤ suc n = omega arith in
    ih (suc n) b.machine b.report le

pub finish_steps : (f : Formats) (left : List BootTask) → Finishes f left
finish_steps f [] n m r h = ended_stays f n m r
finish_steps f (Commits (Does u) ∷ rest) zero m r h = absurd (omega arith)
finish_steps f (Commits (Does u) ∷ rest) (suc n) m r h =
    let le : weight rest + 1 ≤ n = omega arith in
    steps_first f n (progress m (Commits (Does u) ∷ rest) r)
    ∙ unit_steps f u rest (finish_steps f rest) n m r (course_of f m u u.kind) le
finish_steps f (Commits (Settles kind end) ∷ rest) zero m r h = absurd (omega arith)
finish_steps f (Commits (Settles kind end) ∷ rest) (suc n) m r h =
    let b : BootState = next f (progress m (Commits (Settles kind end) ∷ rest) r) in
    let le : weight rest ≤ n = omega arith in
    steps_first f n (progress m (Commits (Settles kind end) ∷ rest) r)
    ∙ finish_steps f rest n b.machine b.report le
finish_steps f (Commits (Unstages pair) ∷ rest) zero m r h = absurd (omega arith)
finish_steps f (Commits (Unstages pair) ∷ rest) (suc n) m r h =
    let b : BootState = next f (progress m (Commits (Unstages pair) ∷ rest) r) in
    let le : weight rest ≤ n = omega arith in
    steps_first f n (progress m (Commits (Unstages pair) ∷ rest) r)
    ∙ finish_steps f rest n b.machine b.report le
finish_steps f (Commits Prunes ∷ rest) zero m r h = absurd (omega arith)
finish_steps f (Commits Prunes ∷ rest) (suc n) m r h =
    let b : BootState = next f (progress m (Commits Prunes ∷ rest) r) in
    let le : weight rest ≤ n = omega arith in
    steps_first f n (progress m (Commits Prunes ∷ rest) r)
    ∙ finish_steps f rest n b.machine b.report le
finish_steps f (Removes serial ∷ rest) zero m r h = absurd (omega arith)
finish_steps f (Removes serial ∷ rest) (suc n) m r h =
    let b : BootState = next f (progress m (Removes serial ∷ rest) r) in
    let le : weight rest ≤ n = omega arith in
    steps_first f n (progress m (Removes serial ∷ rest) r)
    ∙ finish_steps f rest n b.machine b.report le
finish_steps f (Commits Clears ∷ rest) zero m r h = absurd (omega arith)
finish_steps f (Commits Clears ∷ rest) (suc n) m r h =
    let b : BootState = next f (progress m (Commits Clears ∷ rest) r) in
    let le : weight rest ≤ n = omega arith in
    steps_first f n (progress m (Commits Clears ∷ rest) r)
    ∙ finish_steps f rest n b.machine b.report le

-- a whole boot is all its work, done piece by piece
pub boot_finish : (f : Formats) (m : Machine) (h : End)
    → boot_of f m h ≡ tasks_done f (progress m [] (boot_start f m h).report) (boot_tasks f m h)
boot_finish f m h =
    finish_steps f (boot_tasks f m h) (2 * length (boot_tasks f m h)) m (boot_start f m h).report
    (weight_most (boot_tasks f m h))

-- work in two parts
pub finish_append : (f : Formats) (xs ys : List BootTask) (b : BootState)
    → tasks_done f b (xs ++ ys) ≡ tasks_done f (tasks_done f b xs) ys
finish_append f [] ys b = refl
finish_append f (x ∷ xs) ys b = finish_append f xs ys (task_done f b x)
