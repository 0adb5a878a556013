-- What a boot of a reached machine comes to next: the next unit of a delivery, or the open element.
use Rattle.std.proofs.Common.{◌≡◌, ℕ, suc, inl, inr, Bool, true, false, cond, ◌&&◌, not}
use Rattle.std.proofs.Common.{List, [], ◌∷◌, ◌++◌, length, filter, find, refl, arith, sym, ap, ◌∙◌}
use Rattle.std.proofs.Common.{subst, Some, None}
use Rattle.std.specs.List.{AllByRecursion}
use Rattle.bench_model.specs.Boards.{BoardValue, IsBoard}
use Rattle.reference_machine.specs.Boots.{BootTask, BootState, Course, after, after_unit}
use Rattle.reference_machine.specs.Boots.{boot_at, course_of, element_of}
use Rattle.reference_machine.specs.Boots.BootTask.{Commits}
use Rattle.reference_machine.specs.Boots.BootBatch.{Settles, Does}
use Rattle.reference_machine.specs.Boots.Course.{Claim, Close}
use Rattle.reference_machine.specs.Deliveries.{BootUnit}
use Rattle.reference_machine.specs.Formats.{Formats}
use Rattle.reference_machine.specs.Laws.{IsDue, IsGiven, IsReached, KeepsLimits}
use Rattle.reference_machine.specs.Laws.IsReached.{BySteps}
use Rattle.reference_machine.specs.Machine.{Machine}
use Rattle.reference_machine.specs.Spent.{Element, Standing, is_closed, is_of, is_open, spent}
use Rattle.reference_machine.specs.Spent.Standing.{Open, Closed}
use Rattle.reference_machine.specs.Stops.{IsHeldEnd}
use Rattle.reference_machine.specs.declared.unit.End.{End}
use Rattle.reference_machine.specs.declared.unit.Kind.{Kind}
use Rattle.reference_machine.specs.declared.unit.UnitKey.{UnitKey}
use Rattle.reference_machine.proofs.Few.{AreLow, IsLow, boot_low, reached_few}
use Rattle.reference_machine.proofs.Going.{Going, boot_going}
use Rattle.reference_machine.proofs.Keys.{counted_alike, keys_of, spent_all}
use Rattle.reference_machine.proofs.Lists.{NoneOpen, Pends, find_last, find_none}
use Rattle.reference_machine.proofs.Reached.{given, reached_sound, stand_in_order}

-- the last of a list
all_last : {X : Type 0} (P : X → Type 0) (xs : List X) (x : X) → AllByRecursion P (xs ++ x ∷ [])
    → P x
all_last P [] x all = all.0
all_last P (y ∷ ys) x all = all_last P ys x all.1

all_at : {X : Type 0} (P : X → Type 0) (xs : List X) (x : X) (whole : List X)
    → whole ≡ xs ++ x ∷ [] → AllByRecursion P whole → P x
all_at P xs x whole is all = all_last P xs x (subst (AllByRecursion P) is all)

-- a number of a file that counts all of its units counts the spent ones, where nothing is open
spent_before : (list : List Element) (key : UnitKey) → NoneOpen list
    → key.unit ≡ length (filter (λ x. is_of key.ticket.route key.ticket.serial x.key) list)
    → key.ticket.route ≡ 1 → key.unit ≡ spent list key.ticket.serial
spent_before list key none is route =
    is ∙ ap (λ n. length (filter (λ x. is_of n key.ticket.serial x.key) list)) route
    ∙ sym (counted_alike (is_of 1 key.ticket.serial) list)
    ∙ sym (spent_all list key.ticket.serial none)

-- an open element at the end is not spent
spent_open : (front : List Element) (last : Element) (serial : ℕ) → is_open last ≡ true
    → spent (front ++ last ∷ []) serial ≡ spent front serial
spent_open [] last serial h =
    ap (λ b. length (cond b (last ∷ []) [])) (by_test (is_of 1 serial last.key))
  where
    by_test : (b : Bool) → (b && is_closed last) ≡ false
    by_test true = ap not h
    by_test false = refl
spent_open (x ∷ xs) last serial h =
    elim (is_of 1 serial x.key && is_closed x) as
    (λ b. length (cond b
    (x ∷ filter (λ e. is_of 1 serial e.key && is_closed e) (xs ++ last ∷ []))
    (filter (λ e. is_of 1 serial e.key && is_closed e) (xs ++ last ∷ [])))
    ≡ length (cond b (x ∷ filter (λ e. is_of 1 serial e.key && is_closed e) xs)
    (filter (λ e. is_of 1 serial e.key && is_closed e) xs))) [
      | true ↦ ap (λ n. suc n) (spent_open xs last serial h)
      | false ↦ spent_open xs last serial h
    ]

-- ---- what stands at a step

-- nothing is open where a unit comes next
none_at_unit : (m : Machine) (u : BootUnit) (rest : List BootTask)
    → Going m (Commits (Does u) ∷ rest) → NoneOpen m.list
none_at_unit m u rest (inl g) = g.0.none
none_at_unit m u rest (inr g) = absurd g.1

-- the last element is open where a settlement comes next
open_at_settlement : (m : Machine) (kind : Kind) (end : End) (rest : List BootTask)
    → Going m (Commits (Settles kind end) ∷ rest) → Pends m.board m.list
open_at_settlement m kind end rest (inl g) = absurd g.1
open_at_settlement m kind end rest (inr g) = g.0

-- the machine after the step of a unit has its element, and the serials that were given before
record IsAdded (f : Formats) (b : BootState) (u : BootUnit) (new : Machine) : Type 0 where
  standing : Standing
  list : new.list ≡ b.machine.list ++ element_of f u standing ∷ []
  staged : new.last_staged ≡ b.machine.last_staged
  file : new.last_file ≡ b.machine.last_file

unit_added : (f : Formats) (b : BootState) (u : BootUnit) (rest : List BootTask) (c : Course)
    → IsAdded f b u (after_unit f b u rest c).machine
unit_added f b u rest Claim = record { standing = Open; list = refl; staged = refl; file = refl }
unit_added f b u rest (Close end) = record {
  standing = Closed end b.machine.now;
  list = refl;
  staged = refl;
  file = refl;
}

given_before : (m n : Machine) (key : UnitKey) → n.last_staged ≡ m.last_staged
    → n.last_file ≡ m.last_file → IsGiven n key → IsGiven m key
given_before m n key staged file (inl g) = inl (g.0, omega (arith, g.1, staged))
given_before m n key staged file (inr g) = inr (g.0, omega (arith, g.1, file))

low_last : (front : List Element) (last : Element)
    → AllByRecursion IsLow (keys_of (front ++ last ∷ [])) → IsLow last.key
low_last [] last all = all.0
low_last (x ∷ xs) last all = low_last xs last all.1

module _ (f : Formats) (board : BoardValue) (m : Machine) (limits : KeepsLimits f)
    (is : IsBoard board) (r : IsReached f board m) (h : End) (j : ℕ) (held : IsHeldEnd h) where
  abbrev b : BootState
  b = boot_at f m h j

  going : Going b.machine b.left
  going = boot_going f m h j held (reached_sound f board m r)

  low : AllByRecursion IsLow (keys_of b.machine.list) × AreLow b.left
  low = boot_low f limits m h j (reached_few f limits board m is r)

  pub unit_due : (u : BootUnit) (rest : List BootTask) → b.left ≡ Commits (Does u) ∷ rest
      → (find is_open b.machine.list ≡ None) × IsDue b.machine u.key
  unit_due u rest e =
      let none : NoneOpen b.machine.list =
      none_at_unit b.machine u rest (subst (Going b.machine) e going) in
      let new : Machine = (boot_at f m h (suc j)).machine in
      let there : IsReached f board new = BySteps m h (suc j) r held in
      let added : IsAdded f b u new =
      subst (λ left. IsAdded f b u (after f b left).machine) (sym e)
      (unit_added f b u rest (course_of f b.machine u u.kind)) in
      let last : Element = element_of f u added.standing in
      let here : AreLow (Commits (Does u) ∷ rest) = subst AreLow e low.1 in (
        find_none b.machine.list none,
        record {
          unit = spent_before b.machine.list u.key none
              (stand_in_order f board new there b.machine.list [] last added.list);
          few = here.0;
          given = given_before b.machine new u.key added.staged added.file
              (all_at (λ x. IsGiven new x.key) b.machine.list last new.list added.list
              (given f board new there).elements);
        },
      )

  pub settlement_due : (kind : Kind) (end : End) (rest : List BootTask)
      → b.left ≡ Commits (Settles kind end) ∷ rest
      → (e : Element) × (find is_open b.machine.list ≡ Some e) × IsDue b.machine e.key
  settlement_due kind end rest e =
      let p : Pends b.machine.board b.machine.list =
      open_at_settlement b.machine kind end rest (subst (Going b.machine) e going) in
      let there : IsReached f board b.machine = BySteps m h j r held in
      let order = stand_in_order f board b.machine there p.front [] p.last p.parts in (
        p.last,
        ap (find is_open) p.parts ∙ find_last p.front p.last p.none p.is_last,
        record {
          unit = λ route.
              spent_before p.front p.last.key p.none order route
              ∙ sym (spent_open p.front p.last p.last.key.ticket.serial p.is_last)
              ∙ sym (ap (λ l. spent l p.last.key.ticket.serial) p.parts);
          few = low_last p.front p.last
              (subst (λ l. AllByRecursion IsLow (keys_of l)) p.parts low.0);
          given = all_at (λ x. IsGiven b.machine x.key) p.front p.last b.machine.list p.parts
              (given f board b.machine there).elements;
        },
      )
