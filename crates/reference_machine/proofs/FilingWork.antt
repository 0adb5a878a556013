-- Units of files alone add to what is kept, and the request is cleared when no file is left.
use Rattle.std.proofs.Common.{◌≡◌, ℕ, ◌+◌, ◌≤◌, inl, inr, Bool, true, false, cond, not, ◌||◌, ◌==◌}
use Rattle.std.proofs.Common.{List, [], ◌∷◌, ◌++◌, filter, flat_map, drop, refl, arith, sym}
use Rattle.std.proofs.Common.{ap, ◌∙◌, subst, append_assoc}
use Rattle.std.specs.List.{AllByRecursion}
use Rattle.reference_machine.specs.Boots.{BootTask, file_tasks, file_delivery, files_in_order}
use Rattle.reference_machine.specs.Boots.{folder_tasks, memory_delivery, pair_tasks, prune_tasks}
use Rattle.reference_machine.specs.Boots.{staged_in_order, staged_tasks, unit_tasks}
use Rattle.reference_machine.specs.Boots.BootBatch.{Prunes, Clears}
use Rattle.reference_machine.specs.Boots.BootTask.{Commits, Removes}
use Rattle.reference_machine.specs.declared.snapshot.StagedPair.{StagedPair}
use Rattle.reference_machine.specs.Deliveries.{BootUnit, units}
use Rattle.reference_machine.specs.Formats.{Formats}
use Rattle.bench_model.specs.Files.{File}
use Rattle.reference_machine.specs.Machine.{Machine}
use Rattle.reference_machine.specs.Names.{is_taken_before}
use Rattle.reference_machine.specs.Order.{inserted, in_order}
use Rattle.reference_machine.specs.Spent.{spent}
use Rattle.reference_machine.proofs.Apart.{all_both, all_kept, all_imply, kept_pass}
use Rattle.reference_machine.proofs.Filing.{has, serials_of, or_right, same, Known, known_append}
use Rattle.reference_machine.proofs.Filing.{known_units, Empties, empties_does}
use Rattle.reference_machine.proofs.Keys.{Numbered, units_numbered, rest_numbered}
use Rattle.reference_machine.proofs.Ordered.{all_ordered}

-- the serials of files in order are the serials of the files
swapped : (a b c : Bool) → (a || (b || c)) ≡ (b || (a || c))
swapped true true c = refl
swapped true false c = refl
swapped false true c = refl
swapped false false c = refl

has_inserted : (before : File → File → Bool) (x : File) (ys : List File) (s : ℕ)
    → has (serials_of (inserted before x ys)) s ≡ has (serials_of (x ∷ ys)) s
has_inserted before x [] s = refl
has_inserted before x (y ∷ ys) s =
    elim (before y x) as
    (λ b. has (serials_of (cond b (y ∷ inserted before x ys) (x ∷ y ∷ ys))) s
    ≡ has (serials_of (x ∷ y ∷ ys)) s) [
      | true ↦ ap (λ b. (y.serial == s) || b) (has_inserted before x ys s)
          ∙ swapped (y.serial == s) (x.serial == s) (has (serials_of ys) s)
      | false ↦ refl
    ]

has_ordered : (before : File → File → Bool) (xs : List File) (s : ℕ)
    → has (serials_of (in_order before xs)) s ≡ has (serials_of xs) s
has_ordered before [] s = refl
has_ordered before (x ∷ xs) s =
    has_inserted before x (in_order before xs) s
    ∙ ap (λ b. (x.serial == s) || b) (has_ordered before xs s)

-- each file's serial is one of them
pub has_each : (xs : List File)
    → AllByRecursion (λ (x : File). has (serials_of xs) x.serial ≡ true) xs
has_each [] = tt
has_each (x ∷ xs) = (
  ap (λ b. b || has (serials_of xs) x.serial) (same x.serial),
  all_imply (λ (y : File). has (serials_of xs) y.serial ≡ true)
      (λ (y : File). has (serials_of (x ∷ xs)) y.serial ≡ true)
      (λ y h. or_right (x.serial == y.serial) (has (serials_of xs) y.serial) h) xs (has_each xs),
)

-- the work on deliveries by memory
known_pairs : (f : Formats) (m : Machine) (last : ℕ) (serials : List ℕ) (ps : List StagedPair)
    → AllByRecursion (λ (p : StagedPair). p.serial ≤ last) ps
    → Known last serials (flat_map (pair_tasks f m) ps)
known_pairs f m last serials [] all = tt
known_pairs f m last serials (p ∷ ps) all =
    let us : List BootUnit = units f (memory_delivery f m p) m.board in
    let numbered : Numbered 0 p.serial 0 us =
    units_numbered f (memory_delivery f m p) m.board in
    known_append last serials (unit_tasks us) (flat_map (pair_tasks f m) ps)
    (known_units last serials 0 p.serial 0 us numbered (inl (refl, all.0)))
    (known_pairs f m last serials ps all.1)

empties_pairs : (f : Formats) (m : Machine) (ps : List StagedPair) (files : List File)
    (rest : List BootTask) → Empties files rest
    → Empties files (flat_map (pair_tasks f m) ps ++ rest)
empties_pairs f m [] files rest e = e
empties_pairs f m (p ∷ ps) files rest e =
    let us : List BootUnit = units f (memory_delivery f m p) m.board in
    subst (Empties files) (sym (append_assoc (unit_tasks us) (flat_map (pair_tasks f m) ps) rest))
    (empties_does us files (flat_map (pair_tasks f m) ps ++ rest)
    (empties_pairs f m ps files rest e))

-- the work on files
known_files : (f : Formats) (m : Machine) (last : ℕ) (serials : List ℕ) (xs : List File)
    → AllByRecursion (λ (x : File). has serials x.serial ≡ true) xs
    → Known last serials (flat_map (file_tasks f m) xs)
known_files f m last serials [] all = tt
known_files f m last serials (x ∷ xs) all =
    let us : List BootUnit = drop (spent m.list x.serial) (units f (file_delivery x) m.board) in
    let numbered : Numbered 1 x.serial (0 + spent m.list x.serial) us =
    rest_numbered 1 x.serial 0 (spent m.list x.serial) (units f (file_delivery x) m.board)
    (units_numbered f (file_delivery x) m.board) in
    known_append last serials (unit_tasks us ++ Removes x.serial ∷ [])
    (flat_map (file_tasks f m) xs)
    (known_append last serials (unit_tasks us) (Removes x.serial ∷ [])
    (known_units last serials 1 x.serial (0 + spent m.list x.serial) us numbered
    (inr (refl, all.0))) tt)
    (known_files f m last serials xs all.1)

others : (a b c : Bool) → (a ≡ b) → (a || c) ≡ true → not b ≡ true → c ≡ true
others true true c e h k = cc
others true false c e h k = cc
others false b c e h k = h

turned : (a b : ℕ) → (a == b) ≡ (b == a)
turned a b = grind (arith, Rattle.std.proofs.lemmas.Bool.Decides.nat_tests)

none_left : (files : List File) → AllByRecursion (λ (y : File). has [] y.serial ≡ true) files
    → files ≡ []
none_left [] all = refl
none_left (y ∷ ys) all = absurd (let never : false ≡ true = all.0 in cc)

empties_files : (f : Formats) (m : Machine) (xs : List File) (files : List File)
    (rest : List BootTask)
    → AllByRecursion (λ (y : File). has (serials_of xs) y.serial ≡ true) files → Empties [] rest
    → Empties files (flat_map (file_tasks f m) xs ++ rest)
empties_files f m [] files rest all e =
    subst (λ (ys : List File). Empties ys rest) (sym (none_left files all)) e
empties_files f m (x ∷ xs) files rest all e =
    let us : List BootUnit = drop (spent m.list x.serial) (units f (file_delivery x) m.board) in
    let keep : File → Bool = λ y. not (y.serial == x.serial) in
    let split : (unit_tasks us ++ Removes x.serial ∷ []) ++ flat_map (file_tasks f m) xs ++ rest
    ≡ unit_tasks us ++ (Removes x.serial ∷ (flat_map (file_tasks f m) xs ++ rest)) =
    append_assoc (unit_tasks us ++ Removes x.serial ∷ []) (flat_map (file_tasks f m) xs) rest
    ∙ append_assoc (unit_tasks us) (Removes x.serial ∷ [])
    (flat_map (file_tasks f m) xs ++ rest) in
    let still : AllByRecursion (λ (y : File). has (serials_of xs) y.serial ≡ true)
    (filter keep files) =
    all_both (λ (y : File). has (serials_of (x ∷ xs)) y.serial ≡ true) (λ (y : File). keep y ≡ true)
    (λ (y : File). has (serials_of xs) y.serial ≡ true)
    (λ y h k. others (x.serial == y.serial) (y.serial == x.serial) (has (serials_of xs) y.serial)
    (turned x.serial y.serial) h k)
    (filter keep files)
    (all_kept (λ (y : File). has (serials_of (x ∷ xs)) y.serial ≡ true) keep files all)
    (kept_pass keep files) in
    subst (Empties files) (sym split)
    (empties_does us files (Removes x.serial ∷ (flat_map (file_tasks f m) xs ++ rest))
    (empties_files f m xs (filter keep files) rest still e))

-- the work on the folder
known_prune : (m : Machine) (last : ℕ) (serials : List ℕ) → Known last serials (prune_tasks m)
known_prune m last serials = by_test _
  where
    by_test : (t : Bool) → Known last serials (cond t (Commits Prunes ∷ []) [])
    by_test true = tt
    by_test false = tt

known_folder : (f : Formats) (m : Machine) (last : ℕ) (serials : List ℕ)
    → AllByRecursion (λ (x : File). has serials x.serial ≡ true) m.files
    → Known last serials (folder_tasks f m)
known_folder f m last serials all = by_bit m.is_signalled
  where
    files : List BootTask
    files = flat_map (file_tasks f m) (files_in_order m)

    known : Known last serials files
    known = known_files f m last serials (files_in_order m)
        (all_ordered (λ (x : File). has serials x.serial ≡ true)
        (λ x y. is_taken_before x.name y.name) m.files all)

    by_bit : (t : Bool)
        → Known last serials (cond t (prune_tasks m ++ files ++ Commits Clears ∷ []) [])
    by_bit true =
        known_append last serials (prune_tasks m ++ files) (Commits Clears ∷ [])
        (known_append last serials (prune_tasks m) files (known_prune m last serials) known) tt
    by_bit false = tt

pub known_work : (f : Formats) (m : Machine) (last : ℕ) (serials : List ℕ)
    → AllByRecursion (λ (p : StagedPair). p.serial ≤ last) m.staged
    → AllByRecursion (λ (x : File). has serials x.serial ≡ true) m.files
    → Known last serials (staged_tasks f m ++ folder_tasks f m)
known_work f m last serials staged files =
    known_append last serials (staged_tasks f m) (folder_tasks f m)
    (known_pairs f m last serials (staged_in_order m)
    (all_ordered (λ (p : StagedPair). p.serial ≤ last)
    (λ x y. Rattle.std.specs.Prelude.nat_lt x.serial y.serial) m.staged staged))
    (known_folder f m last serials files)

empties_prune : (m : Machine) (files : List File) (rest : List BootTask) → Empties files rest
    → Empties files (prune_tasks m ++ rest)
empties_prune m files rest e = by_test _
  where
    by_test : (t : Bool) → Empties files (cond t (Commits Prunes ∷ []) [] ++ rest)
    by_test true = e
    by_test false = e

empties_folder : (f : Formats) (m : Machine) → Empties m.files (folder_tasks f m)
empties_folder f m = by_bit m.is_signalled
  where
    files : List BootTask
    files = flat_map (file_tasks f m) (files_in_order m)

    all : AllByRecursion (λ (y : File). has (serials_of (files_in_order m)) y.serial ≡ true) m.files
    all =
        all_imply (λ (y : File). has (serials_of m.files) y.serial ≡ true)
        (λ (y : File). has (serials_of (files_in_order m)) y.serial ≡ true)
        (λ y h. has_ordered (λ a b. is_taken_before a.name b.name) m.files y.serial ∙ h) m.files
        (has_each m.files)

    by_bit : (t : Bool)
        → Empties m.files (cond t (prune_tasks m ++ files ++ Commits Clears ∷ []) [])
    by_bit true =
        subst (Empties m.files) (sym (append_assoc (prune_tasks m) files (Commits Clears ∷ [])))
        (empties_prune m m.files (files ++ Commits Clears ∷ [])
        (empties_files f m (files_in_order m) m.files (Commits Clears ∷ []) all (refl, tt)))
    by_bit false = tt

pub empties_work : (f : Formats) (m : Machine)
    → Empties m.files (staged_tasks f m ++ folder_tasks f m)
empties_work f m =
    empties_pairs f m (staged_in_order m) m.files (folder_tasks f m) (empties_folder f m)
