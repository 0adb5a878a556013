-- A thin file that has a target on a board of one device is one try of it.
use Rattle.std.proofs.Common.{◌≡◌, ℕ, zero, suc, ◌<◌, get_or, ◌==◌, ◌&&◌, ◌||◌, Bool, true, false}
use Rattle.std.proofs.Common.{cond, not, IsTrue, List, [], ◌∷◌, ◌++◌, map, flat_map, filter, drop}
use Rattle.std.proofs.Common.{length, refl, sym, arith, ap, ◌∙◌}
use Rattle.std.proofs.Math.Seq.{drop-nil}
use Rattle.std.proofs.lemmas.Bool.Decides.{nat_tests}
use Rattle.std.specs.List.{list_any, list_all, enumerate_from}
use Rattle.bench_model.specs.Boards.{BoardValue}
use Rattle.bench_model.specs.Devices.{DeviceValue}
use Rattle.reference_machine.specs.Boots.{file_tasks, file_delivery, unit_tasks}
use Rattle.reference_machine.specs.Boots.BootBatch.{Does}
use Rattle.reference_machine.specs.Boots.BootTask.{Commits, Removes}
use Rattle.reference_machine.specs.Deliveries.{BootUnit, decoded_units, numbered, units}
use Rattle.reference_machine.specs.Deliveries.{is_target, targets}
use Rattle.reference_machine.specs.Formats.{ItemHead}
use Rattle.bench_model.specs.Files.{File}
use Rattle.reference_machine.specs.Machine.{Machine}
use Rattle.reference_machine.specs.Order.{in_order, inserted}
use Rattle.reset_play.specs.Plays.{has_one_device, is_thin_on}
use Rattle.reference_machine.specs.Spent.{spent}
use Rattle.delivery_formats.specs.TrueFormats.{true_formats}
use Rattle.reset_play.specs.Thin.{thin_item, is_thin}
use Rattle.reset_play.specs.Whole.{file_unit, marked_tasks, all_marked_tasks, marks_of}
use Rattle.reference_machine.proofs.Tests.{both_left, both_right}
use Rattle.reset_play.proofs.ThinLaws.{thin_is_seen}

either_left : (a : Bool) → (a || false) ≡ true → a ≡ true
either_left true h = refl
either_left false h = cc

pub two_not_one : (n : ℕ) → (suc (suc n) == 1) ≡ true → ⊥
two_not_one n h =
    let no : (suc (suc n) == 1) ≡ false = grind (arith, nat_tests) in
    let never : true ≡ false = sym h ∙ no in
    cc

targets_one : (h : ItemHead) (devices : List DeviceValue) → (length devices == 1) ≡ true
    → list_any (is_target h) devices ≡ true
    → map (λ (p : ℕ × DeviceValue). p.0)
    (filter (λ (p : ℕ × DeviceValue). is_target h p.1) (enumerate_from 0 devices)) ≡ 0 ∷ []
targets_one h [] one any = cc
targets_one h (d ∷ []) one any =
    ap (λ b. map (λ (p : ℕ × DeviceValue). p.0) (cond b ((0, d) ∷ []) []))
    (either_left (is_target h d) any)
targets_one h (d ∷ e ∷ rest) one any = absurd (two_not_one (length rest) one)

-- its units are this one
pub units_one : (board : BoardValue) (x : File) → IsTrue (has_one_device board)
    → IsTrue (is_thin_on board x.bytes) → units true_formats (file_delivery x) board
    ≡ file_unit x ∷ []
units_one board x one on =
    let t : is_thin x.bytes ≡ true = both_left _ _ on in
    let ts : targets (thin_item x.bytes).head board ≡ 0 ∷ [] =
    targets_one (thin_item x.bytes).head board.devices one
    (both_right (is_thin x.bytes) _ on) in
    ap (λ found. map numbered (enumerate_from 0 (decoded_units board (file_delivery x) found)))
    (thin_is_seen x.bytes t) ∙ rw ts refl

drop_one : (n : ℕ) (u : BootUnit)
    → unit_tasks (drop n (u ∷ [])) ≡ (cond (not (n == 0)) [] (Commits (Does u) ∷ []))
drop_one zero u = refl
drop_one (suc n) u =
    let none : drop n (no_units) ≡ [] = drop-nil n in
    let test : (suc n == 0) ≡ false = grind (arith, nat_tests) in
    ap unit_tasks none ∙ ap (λ b. cond (not b) [] (Commits (Does u) ∷ [])) (sym test)
  where
    no_units : List BootUnit
    no_units = []

-- the work on it, by whether the unit is spent
pub work_one : (m : Machine) (x : File) → IsTrue (has_one_device m.board)
    → IsTrue (is_thin_on m.board x.bytes)
    → file_tasks true_formats m x ≡ marked_tasks x (not (spent m.list x.serial == 0))
work_one m x one on =
    ap (λ us. unit_tasks (drop (spent m.list x.serial) us) ++ Removes x.serial ∷ [])
    (units_one m.board x one on)
    ∙ ap (λ w. w ++ Removes x.serial ∷ []) (drop_one (spent m.list x.serial) (file_unit x))

-- the work on such files
pub works_marked : (m : Machine) (xs : List File) → IsTrue (has_one_device m.board)
    → IsTrue (list_all (λ (x : File). is_thin_on m.board x.bytes) xs)
    → flat_map (file_tasks true_formats m) xs ≡ all_marked_tasks xs (marks_of m.list xs)
works_marked m [] one all = refl
works_marked m (x ∷ xs) one all =
    let head : file_tasks true_formats m x ≡ marked_tasks x (not (spent m.list x.serial == 0)) =
    work_one m x one (both_left _ _ all) in
    let tail : flat_map (file_tasks true_formats m) xs ≡ all_marked_tasks xs (marks_of m.list xs) =
    works_marked m xs one (both_right (is_thin_on m.board x.bytes) _ all) in
    ap (λ w. w ++ flat_map (file_tasks true_formats m) xs) head
    ∙ ap (λ w. marked_tasks x (not (spent m.list x.serial == 0)) ++ w) tail

both : (a b : Bool) → a ≡ true → b ≡ true → IsTrue (a && b)
both true true h k = refl
both true false h k = k
both false b h k = h

-- what holds of all items holds of them in order
inserted_all : {X : Type 0} (p : X → Bool) (before : X → X → Bool) (x : X) (ys : List X)
    → p x ≡ true → IsTrue (list_all p ys) → IsTrue (list_all p (inserted before x ys))
inserted_all p before x [] h all = both (p x) true h refl
inserted_all p before x (y ∷ ys) h all =
    elim (before y x) as
    (λ b. IsTrue (list_all p (cond b (y ∷ inserted before x ys) (x ∷ y ∷ ys)))) [
      | true ↦ both (p y) (list_all p (inserted before x ys)) (both_left (p y) _ all)
          (inserted_all p before x ys h (both_right (p y) _ all))
      | false ↦ both (p x) (list_all p (y ∷ ys)) h all
    ]

pub ordered_all : {X : Type 0} (p : X → Bool) (before : X → X → Bool) (xs : List X)
    → IsTrue (list_all p xs) → IsTrue (list_all p (in_order before xs))
ordered_all p before [] all = refl
ordered_all p before (x ∷ xs) all =
    inserted_all p before x (in_order before xs) (both_left (p x) _ all)
    (ordered_all p before xs (both_right (p x) _ all))

-- what holds of all items holds of each
pub all_at : {X : Type 0} (p : X → Bool) (xs : List X) (i : ℕ) (d : X) → i < length xs
    → IsTrue (list_all p xs) → IsTrue (p (get_or xs i d))
all_at p [] i d h all = absurd (omega arith)
all_at p (x ∷ xs) zero d h all = both_left (p x) _ all
all_at p (x ∷ xs) (suc i) d h all = let lt : i < length xs =
    omega arith in all_at p xs i d lt (both_right (p x) _ all)
