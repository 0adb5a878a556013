-- A boot comes to its end: each step leaves less work, and a piece of work takes at most two steps.
use Rattle.std.proofs.Common.{◌≡◌, ℕ, zero, suc, ◌+◌, ◌-◌, ◌*◌, ◌≤◌, inl, inr, List, [], ◌∷◌}
use Rattle.std.proofs.Common.{length, refl, arith, ap, ◌∙◌, subst, Option, Some, None, find}
use Rattle.reference_machine.specs.declared.unit.End.{End}
use Rattle.reference_machine.specs.Boots.{BootTask, BootState, Course, after, after_unit, next}
use Rattle.reference_machine.specs.Boots.{after_steps, boot_start, boot_of, boot_tasks, course_of}
use Rattle.reference_machine.specs.Boots.{settled_with}
use Rattle.reference_machine.specs.Boots.BootTask.{Commits, Removes}
use Rattle.reference_machine.specs.Boots.BootBatch.{Settles, Unstages, Does, Prunes, Clears}
use Rattle.reference_machine.specs.Boots.Course.{Claim, Close}
use Rattle.reference_machine.specs.Deliveries.{BootUnit}
use Rattle.reference_machine.specs.Formats.{Formats}
use Rattle.reference_machine.specs.Stops.{IsHeldEnd}
use Rattle.reference_machine.specs.Machine.{Machine}
use Rattle.reference_machine.specs.Spent.{Element, is_open}
use Rattle.reference_machine.proofs.Going.{Going, IsSettling, Sound, boot_going}
use Rattle.reference_machine.proofs.Lists.{Rests}

-- the most steps that work takes
abbrev pub weight : List BootTask → ℕ
weight [] = 0
weight (Commits (Settles kind end) ∷ rest) = weight rest + 1
weight (Commits (Unstages pair) ∷ rest) = weight rest + 1
weight (Commits (Does unit) ∷ rest) = weight rest + 2
weight (Commits Prunes ∷ rest) = weight rest + 1
weight (Removes serial ∷ rest) = weight rest + 1
weight (Commits Clears ∷ rest) = weight rest + 1

pub weight_most : (left : List BootTask) → weight left ≤ 2 * length left
weight_most [] = omega arith
weight_most (Commits (Settles kind end) ∷ rest) = let h : weight rest ≤ 2 * length rest =
    weight_most rest in omega arith
weight_most (Commits (Unstages pair) ∷ rest) = let h : weight rest ≤ 2 * length rest =
    weight_most rest in omega arith
weight_most (Commits (Does unit) ∷ rest) = let h : weight rest ≤ 2 * length rest =
    weight_most rest in omega arith
weight_most (Commits Prunes ∷ rest) = let h : weight rest ≤ 2 * length rest =
    weight_most rest in omega arith
weight_most (Removes serial ∷ rest) = let h : weight rest ≤ 2 * length rest =
    weight_most rest in omega arith
weight_most (Commits Clears ∷ rest) = let h : weight rest ≤ 2 * length rest =
    weight_most rest in omega arith

unit_lighter : (f : Formats) (b : BootState) (u : BootUnit) (rest : List BootTask) (c : Course)
    → weight (after_unit f b u rest c).left ≤ weight rest + 1
unit_lighter f b u rest Claim = omega arith
unit_lighter f b u rest (Close end) = omega arith

after_lighter : (f : Formats) (b : BootState) (left : List BootTask) → b.left ≡ left
    → weight (after f b left).left ≤ weight left - 1
after_lighter f b [] e = let h : weight b.left ≡ 0 = ap weight e in omega arith
after_lighter f b (Commits (Settles kind end) ∷ rest) e = omega arith
after_lighter f b (Commits (Unstages pair) ∷ rest) e = omega arith
after_lighter f b (Commits (Does u) ∷ rest) e =
    let h : weight (after_unit f b u rest (course_of f b.machine u u.kind)).left ≤ weight rest + 1 =
    unit_lighter f b u rest (course_of f b.machine u u.kind) in omega arith
after_lighter f b (Commits Prunes ∷ rest) e = omega arith
after_lighter f b (Removes serial ∷ rest) e = omega arith
after_lighter f b (Commits Clears ∷ rest) e = omega arith

steps_lighter : (f : Formats) (n : ℕ) (b : BootState)
    → weight (after_steps f n b).left ≤ weight b.left - n
steps_lighter f zero b = omega arith
steps_lighter f (suc n) b =
    let h : weight (after_steps f n b).left ≤ weight b.left - n = steps_lighter f n b in
    let k : weight (next f (after_steps f n b)).left ≤ weight (after_steps f n b).left - 1 =
    after_lighter f (after_steps f n b) (after_steps f n b).left refl in
    omega arith

none_left : (left : List BootTask) → weight left ≤ 0 → left ≡ []
none_left [] h = refl
none_left (Commits (Settles kind end) ∷ rest) h = absurd (omega arith)
none_left (Commits (Unstages pair) ∷ rest) h = absurd (omega arith)
none_left (Commits (Does unit) ∷ rest) h = absurd (omega arith)
none_left (Commits Prunes ∷ rest) h = absurd (omega arith)
none_left (Removes serial ∷ rest) h = absurd (omega arith)
none_left (Commits Clears ∷ rest) h = absurd (omega arith)

-- nothing is left of a whole boot
pub boot_ends : (f : Formats) (m : Machine) (h : End) → (boot_of f m h).left ≡ []
boot_ends f m h =
    let lighter : weight (boot_of f m h).left
    ≤ weight (boot_tasks f m h) - 2 * length (boot_tasks f m h) =
    steps_lighter f (2 * length (boot_tasks f m h)) (boot_start f m h) in
    let most : weight (boot_tasks f m h) ≤ 2 * length (boot_tasks f m h) =
    weight_most (boot_tasks f m h) in
    none_left (boot_of f m h).left (omega arith)

-- and nothing is open after it
pub boot_rests : (f : Formats) (m : Machine) (h : End) → IsHeldEnd h → Sound m
    → Rests (boot_of f m h).machine.board (boot_of f m h).machine.list
boot_rests f m h held s = by_going (boot_going f m h (2 * length (boot_tasks f m h)) held s)
  where
    by_going : Going (boot_of f m h).machine (boot_of f m h).left
        → Rests (boot_of f m h).machine.board (boot_of f m h).machine.list
    by_going (inl g) = g.0
    by_going (inr g) = absurd (subst IsSettling (boot_ends f m h) g.1)

-- a boot does not touch the mark of a fault
settled_failed : (m : Machine) (end : End) (o : Option Element)
    → (settled_with m end o).failed ≡ m.failed
settled_failed m end None = refl
settled_failed m end (Some e) = refl

unit_failed : (f : Formats) (b : BootState) (u : BootUnit) (rest : List BootTask) (c : Course)
    → (after_unit f b u rest c).machine.failed ≡ b.machine.failed
unit_failed f b u rest Claim = refl
unit_failed f b u rest (Close end) = refl

after_failed : (f : Formats) (b : BootState) (left : List BootTask)
    → (after f b left).machine.failed ≡ b.machine.failed
after_failed f b [] = refl
after_failed f b (Commits (Settles kind end) ∷ rest) =
    settled_failed b.machine end (find is_open b.machine.list)
after_failed f b (Commits (Unstages pair) ∷ rest) = refl
after_failed f b (Commits (Does u) ∷ rest) = unit_failed f b u rest (course_of f b.machine u u.kind)
after_failed f b (Commits Prunes ∷ rest) = refl
after_failed f b (Removes serial ∷ rest) = refl
after_failed f b (Commits Clears ∷ rest) = refl

pub steps_failed : (f : Formats) (n : ℕ) (b : BootState)
    → (after_steps f n b).machine.failed ≡ b.machine.failed
steps_failed f zero b = refl
steps_failed f (suc n) b =
    after_failed f (after_steps f n b) (after_steps f n b).left ∙ steps_failed f n b
