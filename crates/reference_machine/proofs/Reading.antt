-- What the definitions come to in numbers, read off them.
use Rattle.std.proofs.Common.{◌≡◌, ℕ, zero, suc, ◌+◌, ◌<◌, ◌≤◌, ◌⊎◌, ◌↔◌, inl, inr, Bool, true}
use Rattle.std.proofs.Common.{false, cond, ◌&&◌, ◌||◌, nat_le, nat_lt, IsTrue, List, [], ◌∷◌, ◌++◌}
use Rattle.std.proofs.Common.{map, flat_map, find, length, refl, arith, sym, ap, subst, Some, None}
use Rattle.std.specs.List.{list_all, range_with_len}
use Rattle.std.proofs.lemmas.Bool.Decides.{nat_tests}
use Rattle.bench_model.specs.Boards.{BoardValue}
use Rattle.bench_model.specs.declared.outside_limits.TheConstants.{MAX_SEGMENTS, MAX_MEMORY_BYTES}
use Rattle.reference_machine.specs.declared.unit.End.{End}
use Rattle.reference_machine.specs.declared.unit.End.TheVariants.{Sealed, Kept, Lost}
use Rattle.reference_machine.specs.Boots.{BootTask, boot_at, boot_of, boot_tasks, tasks_with}
use Rattle.reference_machine.specs.Deliveries.{BootUnit}
use Rattle.reference_machine.specs.Events.{InputBytes, IsIn, cut_machines, outcome}
use Rattle.reference_machine.specs.Events.{is_memory_full, before_and_after}
use Rattle.reference_machine.specs.Events.{laid_bytes}
use Rattle.reference_machine.specs.declared.event.Event.{Event}
use Rattle.reference_machine.specs.declared.event.Event.TheVariants.{Time, Drop, Signal, Lay, Poke}
use Rattle.reference_machine.specs.declared.event.Event.TheVariants.{Stage, Boot, Arm, Fail, Reset}
use Rattle.reference_machine.specs.declared.event.Event.TheVariants.{Show}
use Rattle.reference_machine.specs.Formats.{Formats, Parts}
use Rattle.reference_machine.specs.Laws.{IsReached, IsPastMemory}
use Rattle.reference_machine.specs.Laws.IsReached.{ByEvent, BySteps}
use Rattle.reference_machine.specs.Machine.{Machine}
use Rattle.reference_machine.specs.Report.{ReportValue}
use Rattle.reference_machine.specs.Spent.{Element, is_open, floor_of}
use Rattle.reference_machine.specs.Stops.{StopCause, Agrees, IsHeldEnd, is_folder_task, stops}
use Rattle.image_parts.specs.Admission.{is_admitted}
use Rattle.cu_base.specs.Refusals.{first_refusal}
use Rattle.reference_machine.specs.Verdicts.{refusal_with, check, capacity_of, keeps_dependencies}

-- no boot is stopped by the volume before its heal
heal_first : (f : Formats) (m : Machine) (h : End) (e : Element) (n : ℕ)
    → find is_open m.list ≡ Some e → list_all is_folder_task (boot_at f m h n).left ≡ true → 0 < n
heal_first f m h e zero is in_folder =
    let tasks : boot_tasks f m h ≡ tasks_with f m h (Some e) = ap (tasks_with f m h) is in
    absurd (let no : false
    ≡ true = subst
    (λ (w : List BootTask). list_all is_folder_task w ≡ true) tasks in_folder in cc)
heal_first f m h e (suc n) is in_folder = omega arith

left_of : (a b : Bool) → IsTrue (a && b) → a ≡ true
left_of true b h = refl
left_of false b h = cc

pub healed_before : (f : Formats) (m : Machine) (h : End) (r : ReportValue) (new : Machine)
    (e : Element) → find is_open m.list ≡ Some e → Agrees f m h r StopCause.Volume new → 0 < r.steps
healed_before f m h r new e is (tells, (asked, folder, either)) =
    heal_first f m h e r.steps is (left_of _ _ folder)

-- the machines of an event that is cut off are reached
stops_reach : (f : Formats) (board : BoardValue) (m : Machine) (h : End) → IsReached f board m
    → IsHeldEnd h → (js : List ℕ) (new : Machine)
    → IsIn new (map (λ j. (boot_at f m h j).machine) js) → IsReached f board new
stops_reach f board m h r held [] new is = absurd is
stops_reach f board m h r held (j ∷ js) new (inl e) =
    subst (IsReached f board) (sym e) (BySteps m h j r held)
stops_reach f board m h r held (j ∷ js) new (inr is) = stops_reach f board m h r held js new is

in_append : {X : Type 0} (x : X) (ys zs : List X) → IsIn x (ys ++ zs) → IsIn x ys ⊎ IsIn x zs
in_append x [] zs is = inr is
in_append x (y ∷ ys) zs (inl e) = inl (inl e)
in_append x (y ∷ ys) zs (inr is) = by_side (in_append x ys zs is)
  where
    by_side : IsIn x ys ⊎ IsIn x zs → IsIn x (y ∷ ys) ⊎ IsIn x zs
    by_side (inl k) = inl (inr k)
    by_side (inr k) = inr k

-- all ends are told by what a device holds
abbrev AllHeld : List End → Type 0
AllHeld [] = Unit {0}
AllHeld (h ∷ hs) = IsHeldEnd h × AllHeld hs

module _ (f : Formats) (bytes_of : InputBytes) (board : BoardValue) (m : Machine)
    (r : IsReached f board m) where
  two_reach : (event : Event) (new : Machine) → IsIn new (before_and_after f bytes_of m event)
      → IsReached f board new
  two_reach event new (inl e) = subst (IsReached f board) (sym e) r
  two_reach event new (inr (inl e)) =
      subst (IsReached f board) (sym e)
      (ByEvent bytes_of m event (outcome f bytes_of m event).0 (outcome f bytes_of m event).1 r
      (inl (inl refl)))
  two_reach event new (inr (inr never)) = absurd never

  boots_reach : (hs : List End) (new : Machine) → AllHeld hs → IsIn new (flat_map (stops f m) hs)
      → IsReached f board new
  boots_reach [] new held is = absurd is
  boots_reach (h ∷ hs) new held is =
      by_side (λ k. boots_reach hs new held.1 k)
      (in_append new (stops f m h) (flat_map (stops f m) hs) is)
    where
      by_side : (IsIn new (flat_map (stops f m) hs) → IsReached f board new)
          → IsIn new (stops f m h) ⊎ IsIn new (flat_map (stops f m) hs) → IsReached f board new
      by_side later (inl k) =
          stops_reach f board m h r held.0
          (range_with_len 0 ((boot_of f m h).report.steps + 1)) new k
      by_side later (inr k) = later k

  pub cut_reach : (event : Event) (new : Machine) → IsIn new (cut_machines f bytes_of m event)
      → IsReached f board new
  cut_reach (Time moment) new is = two_reach (Time moment) new is
  cut_reach (Drop file input) new is = two_reach (Drop file input) new is
  cut_reach Signal new is = two_reach Signal new is
  cut_reach (Lay address input) new is = two_reach (Lay address input) new is
  cut_reach (Poke address bytes) new is = two_reach (Poke address bytes) new is
  cut_reach (Stage address) new is = two_reach (Stage address) new is
  cut_reach Boot new is = boots_reach (Sealed ∷ Kept ∷ Lost ∷ []) new (tt, (tt, (tt, tt))) is
  cut_reach (Arm after choice) new is = two_reach (Arm after choice) new is
  cut_reach (Fail nth) new is = two_reach (Fail nth) new is
  cut_reach (Reset cold) new is = two_reach (Reset cold) new is
  cut_reach Show new is = two_reach Show new is

-- memory takes no more segments, and no more bytes, than its limits say
or_true : (a b : Bool) → (a || b) ≡ true → (a ≡ true) ⊎ (b ≡ true)
or_true true b h = inl refl
or_true false b h = inr h

true_or : (a b : Bool) → (a ≡ true) ⊎ (b ≡ true) → (a || b) ≡ true
true_or true b h = refl
true_or false b (inl h) = cc
true_or false b (inr h) = h

at_most : (a b : ℕ) → nat_le a b ≡ true → a ≤ b
at_most a b h = grind (arith, nat_tests)

below : (a b : ℕ) → nat_lt a b ≡ true → a < b
below a b h = grind (arith, nat_tests)

is_at_most : (a b : ℕ) → a ≤ b → nat_le a b ≡ true
is_at_most a b h = grind (arith, nat_tests)

is_below : (a b : ℕ) → a < b → nat_lt a b ≡ true
is_below a b h = grind (arith, nat_tests)

not_at_most : (a b : ℕ) → b < a → nat_le a b ≡ false
not_at_most a b h = grind (arith, nat_tests)

pub memory_full : (m : Machine) (bytes : List ℕ)
    → is_memory_full m bytes ≡ true ↔ IsPastMemory m bytes
memory_full m bytes = (λ h. there (or_true _ _ h), λ h. true_or _ _ (back h))
  where
    there : (nat_le MAX_SEGMENTS (length m.memory) ≡ true)
        ⊎ (nat_lt MAX_MEMORY_BYTES (laid_bytes m + length bytes) ≡ true) → IsPastMemory m bytes
    there (inl h) = inl (at_most _ _ h)
    there (inr h) = inr (below _ _ h)

    back : IsPastMemory m bytes
        → (nat_le MAX_SEGMENTS (length m.memory) ≡ true)
        ⊎ (nat_lt MAX_MEMORY_BYTES (laid_bytes m + length bytes) ≡ true)
    back (inl h) = inl (is_at_most _ _ h)
    back (inr h) = inr (is_below _ _ h)

last_row : (passes : Bool) (status : ℕ)
    → first_refusal (check passes status ∷ []) ≡ cond passes None (Some status)
last_row true status = refl
last_row false status = refl

-- the checks of a try, each where those before it pass
module _ (f : Formats) (m : Machine) (u : BootUnit) (p : Parts) where
  pub shape_fails : refusal_with f m u None ≡ Some 4
  shape_fails = refl

  pub admission_fails : is_admitted m.board.digests u.image ≡ false → refusal_with f m u (Some p)
      ≡ Some 5
  admission_fails a = rw a refl

  pub capacity_fails : is_admitted m.board.digests u.image ≡ true
      → capacity_of m.board u.key.device < length p.payload → refusal_with f m u (Some p) ≡ Some 2
  capacity_fails a h =
      let c : nat_le (length p.payload) (capacity_of m.board u.key.device) ≡ false =
      not_at_most _ _ h in
      rw (a, c) refl

  pub version_fails : is_admitted m.board.digests u.image ≡ true
      → length p.payload ≤ capacity_of m.board u.key.device
      → p.version < floor_of m.board m.list u.key.device → refusal_with f m u (Some p) ≡ Some 3
  version_fails a h k =
      let c : nat_le (length p.payload) (capacity_of m.board u.key.device) ≡ true =
      is_at_most _ _ h in
      let v : nat_le (floor_of m.board m.list u.key.device) p.version ≡ false = not_at_most _ _ k in
      rw (a, c, v) refl

  pub last_decides : is_admitted m.board.digests u.image ≡ true
      → length p.payload ≤ capacity_of m.board u.key.device
      → floor_of m.board m.list u.key.device ≤ p.version
      → refusal_with f m u (Some p) ≡ cond (keeps_dependencies f m u.key.device p) None (Some 8)
  last_decides a h k =
      let c : nat_le (length p.payload) (capacity_of m.board u.key.device) ≡ true =
      is_at_most _ _ h in
      let v : nat_le (floor_of m.board m.list u.key.device) p.version ≡ true = is_at_most _ _ k in
      rw (a, c, v) (last_row (keeps_dependencies f m u.key.device p) 8)
