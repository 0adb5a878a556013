-- Each boot does the units of a delivery in order: its work begins where the list of spent units
-- ends.
use Rattle.std.proofs.Common.{◌≡◌, ℕ, suc, ◌+◌, length, ap, Bool, true, false, cond, ◌==◌, List, []}
use Rattle.std.proofs.Common.{◌∷◌, ◌++◌, flat_map, drop, refl, arith, sym, ◌∙◌, subst}
use Rattle.std.proofs.Common.{append_assoc}
use Rattle.std.specs.List.{AllByRecursion}
use Rattle.std.proofs.lemmas.Bool.Decides.{nat_tests}
use Rattle.reference_machine.specs.declared.snapshot.StagedPair.{StagedPair}
use Rattle.reference_machine.specs.declared.unit.UnitKey.{UnitKey}
use Rattle.reference_machine.specs.Boots.{BootTask, file_tasks, file_delivery, pair_tasks}
use Rattle.reference_machine.specs.Boots.{memory_delivery, unit_tasks}
use Rattle.reference_machine.specs.Boots.BootTask.{Removes}
use Rattle.reference_machine.specs.Deliveries.{BootUnit, units}
use Rattle.reference_machine.specs.Formats.{Formats}
use Rattle.reference_machine.specs.Laws.{Distinct}
use Rattle.bench_model.specs.Files.{File}
use Rattle.reference_machine.specs.Machine.{Machine}
use Rattle.reference_machine.specs.Order.{inserted, in_order}
use Rattle.reference_machine.specs.Spent.{spent}
use Rattle.reference_machine.proofs.Keys.{count, Ahead, Numbered, unit_keys, units_numbered}
use Rattle.reference_machine.proofs.Keys.{rest_numbered, do_ahead, count_apart}

-- an order keeps what holds of each item, and that items are distinct
pub all_inserted : {X : Type 0} (P : X → Type 0) (before : X → X → Bool) (x : X) (ys : List X) → P x
    → AllByRecursion P ys → AllByRecursion P (inserted before x ys)
all_inserted P before x [] h all = (h, tt)
all_inserted P before x (y ∷ ys) h all =
    elim (before y x) as (λ b. AllByRecursion P (cond b (y ∷ inserted before x ys) (x ∷ y ∷ ys))) [
      | true ↦ (all.0, all_inserted P before x ys h all.1)
      | false ↦ (h, all)
    ]

pub all_ordered : {X : Type 0} (P : X → Type 0) (before : X → X → Bool) (xs : List X)
    → AllByRecursion P xs → AllByRecursion P (in_order before xs)
all_ordered P before [] all = tt
all_ordered P before (x ∷ xs) all =
    all_inserted P before x (in_order before xs) all.0 (all_ordered P before xs all.1)

distinct_inserted : {X : Type 0} (same before : X → X → Bool)
    → ((a b : X) → same a b ≡ false → same b a ≡ false) → (x : X) (ys : List X)
    → AllByRecursion (λ y. same x y ≡ false) ys → Distinct same ys
    → Distinct same (inserted before x ys)
distinct_inserted same before turn x [] all d = (tt, tt)
distinct_inserted same before turn x (y ∷ ys) all d =
    elim (before y x) as (λ b. Distinct same (cond b (y ∷ inserted before x ys) (x ∷ y ∷ ys))) [
      | true ↦ (
        all_inserted (λ z. same y z ≡ false) before x ys (turn x y all.0) d.0,
        distinct_inserted same before turn x ys all.1 d.1,
      )
      | false ↦ (all, d)
    ]

pub distinct_ordered : {X : Type 0} (same before : X → X → Bool)
    → ((a b : X) → same a b ≡ false → same b a ≡ false) → (xs : List X) → Distinct same xs
    → Distinct same (in_order before xs)
distinct_ordered same before turn [] d = tt
distinct_ordered same before turn (x ∷ xs) d =
    distinct_inserted same before turn x (in_order before xs)
    (all_ordered (λ y. same x y ≡ false) before xs d.0)
    (distinct_ordered same before turn xs d.1)

pub turned : (a b : ℕ) → (a == b) ≡ false → (b == a) ≡ false
turned a b h = grind (arith, nat_tests)

-- the files' part of a boot
pub files_ahead : (f : Formats) (m : Machine) (xs : List File) (keys : List UnitKey)
    (rest : List BootTask) → ((ks : List UnitKey) → Ahead ks rest)
    → Distinct (λ (a b : File). a.serial == b.serial) xs
    → AllByRecursion (λ (x : File). count 1 x.serial keys ≡ spent m.list x.serial) xs
    → Ahead keys (flat_map (file_tasks f m) xs ++ rest)
files_ahead f m [] keys rest free d all = free keys
files_ahead f m (x ∷ xs) keys rest free d all =
    let us : List BootUnit = drop (spent m.list x.serial) (units f (file_delivery x) m.board) in
    let numbered : Numbered 1 x.serial (0 + spent m.list x.serial) us =
    rest_numbered 1 x.serial 0 (spent m.list x.serial) (units f (file_delivery x) m.board)
    (units_numbered f (file_delivery x) m.board) in
    let others : AllByRecursion
    (λ (y : File). count 1 y.serial (keys ++ unit_keys us) ≡ spent m.list y.serial) xs =
    all_both (λ (y : File). (x.serial == y.serial) ≡ false)
    (λ (y : File). count 1 y.serial keys ≡ spent m.list y.serial)
    (λ (y : File). count 1 y.serial (keys ++ unit_keys us) ≡ spent m.list y.serial)
    (λ y apart e. count_apart 1 x.serial 1 y.serial
    (0 + spent m.list x.serial) us keys numbered apart ∙ e) xs d.0 all.1 in
    let later : Ahead (keys ++ unit_keys us) (flat_map (file_tasks f m) xs ++ rest) =
    files_ahead f m xs (keys ++ unit_keys us) rest free d.1 others in
    let e : count 1 x.serial keys ≡ 0 + spent m.list x.serial = all.0 ∙ omega arith in
    let split : (unit_tasks us ++ Removes x.serial ∷ []) ++ flat_map (file_tasks f m) xs ++ rest
    ≡ unit_tasks us ++ (Removes x.serial ∷ (flat_map (file_tasks f m) xs ++ rest)) =
    append_assoc (unit_tasks us ++ Removes x.serial ∷ []) (flat_map (file_tasks f m) xs) rest
    ∙ append_assoc (unit_tasks us) (Removes x.serial ∷ [])
    (flat_map (file_tasks f m) xs ++ rest) in
    subst (Ahead keys) (sym split)
    (do_ahead 1 x.serial (0 + spent m.list x.serial) us keys
    (Removes x.serial ∷ (flat_map (file_tasks f m) xs ++ rest)) numbered e later)
  where
    all_both : (P Q R : File → Type 0) → ((y : File) → P y → Q y → R y) → (ys : List File)
        → AllByRecursion P ys → AllByRecursion Q ys → AllByRecursion R ys
    all_both P Q R h [] p q = tt
    all_both P Q R h (y ∷ ys) p q = (h y p.0 q.0, all_both P Q R h ys p.1 q.1)

-- the staged deliveries' part
pub staged_ahead : (f : Formats) (m : Machine) (ps : List StagedPair) (keys : List UnitKey)
    (rest : List BootTask)
    → ((ks : List UnitKey) → ((s : ℕ) → count 1 s ks ≡ count 1 s keys) → Ahead ks rest)
    → Distinct (λ (a b : StagedPair). a.serial == b.serial) ps
    → AllByRecursion (λ (p : StagedPair). count 0 p.serial keys ≡ 0) ps
    → Ahead keys (flat_map (pair_tasks f m) ps ++ rest)
staged_ahead f m [] keys rest free d all = free keys (λ s. refl)
staged_ahead f m (p ∷ ps) keys rest free d all =
    let us : List BootUnit = units f (memory_delivery f m p) m.board in
    let numbered : Numbered 0 p.serial 0 us =
    units_numbered f (memory_delivery f m p) m.board in
    let others : AllByRecursion
    (λ (q : StagedPair). count 0 q.serial (keys ++ unit_keys us) ≡ 0) ps =
    all_both (λ (q : StagedPair). (p.serial == q.serial) ≡ false)
    (λ (q : StagedPair). count 0 q.serial keys ≡ 0)
    (λ (q : StagedPair). count 0 q.serial (keys ++ unit_keys us) ≡ 0)
    (λ q apart e. count_apart 0 p.serial 0 q.serial 0 us keys numbered apart ∙ e) ps d.0 all.1 in
    let still : (s : ℕ) → count 1 s (keys ++ unit_keys us) ≡ count 1 s keys =
    λ s. count_apart 0 p.serial 1 s 0 us keys numbered refl in
    let later : Ahead (keys ++ unit_keys us) (flat_map (pair_tasks f m) ps ++ rest) =
    staged_ahead f m ps (keys ++ unit_keys us) rest
    (λ ks h. free ks (λ s. h s ∙ still s)) d.1 others in
    let split : unit_tasks us ++ flat_map (pair_tasks f m) ps ++ rest
    ≡ unit_tasks us ++ (flat_map (pair_tasks f m) ps ++ rest) =
    append_assoc (unit_tasks us) (flat_map (pair_tasks f m) ps) rest in
    subst (Ahead keys) (sym split)
    (do_ahead 0 p.serial 0 us keys (flat_map (pair_tasks f m) ps ++ rest) numbered all.0 later)
  where
    all_both : (P Q R : StagedPair → Type 0) → ((y : StagedPair) → P y → Q y → R y)
        → (ys : List StagedPair) → AllByRecursion P ys → AllByRecursion Q ys → AllByRecursion R ys
    all_both P Q R h [] p q = tt
    all_both P Q R h (y ∷ ys) p q = (h y p.0 q.0, all_both P Q R h ys p.1 q.1)

-- an order keeps how many items there are
inserted_length : {X : Type 0} (before : X → X → Bool) (x : X) (ys : List X)
    → length (inserted before x ys) ≡ suc (length ys)
inserted_length before x [] = refl
inserted_length before x (y ∷ ys) =
    elim (before y x) as
    (λ b. length (cond b (y ∷ inserted before x ys) (x ∷ y ∷ ys)) ≡ suc (suc (length ys))) [
      | true ↦ ap suc (inserted_length before x ys)
      | false ↦ refl
    ]

pub ordered_length : {X : Type 0} (before : X → X → Bool) (xs : List X)
    → length (in_order before xs) ≡ length xs
ordered_length before [] = refl
ordered_length before (x ∷ xs) =
    inserted_length before x (in_order before xs) ∙ ap suc (ordered_length before xs)
