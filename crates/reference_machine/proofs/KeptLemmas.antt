-- The serials in kept: none twice, and few, since the work on a folder begins with those of its
-- files alone.
use Rattle.std.proofs.Common.{◌≡◌, ℕ, ◌+◌, ◌≤◌, inl, inr, Bool, true, false, cond, not, ◌||◌, ◌==◌}
use Rattle.std.proofs.Common.{List, [], ◌∷◌, ◌++◌, length, filter, flat_map, refl, arith, sym}
use Rattle.std.proofs.Common.{ap, ◌∙◌, subst, append_assoc}
use Rattle.std.specs.List.{AllByRecursion, list_any}
use Rattle.bench_model.specs.declared.outside_limits.TheConstants.{MAX_FILES}
use Rattle.reference_machine.specs.declared.snapshot.StagedPair.{StagedPair}
use Rattle.reference_machine.specs.declared.unit.UnitKey.{UnitKey}
use Rattle.reference_machine.specs.Boots.{BootTask, progress_with, is_file, file_tasks}
use Rattle.reference_machine.specs.Boots.{files_in_order, folder_tasks, memory_delivery, pair_tasks}
use Rattle.reference_machine.specs.Boots.{staged_in_order, staged_tasks, unit_tasks}
use Rattle.reference_machine.specs.Boots.BootTask.{Commits, Removes}
use Rattle.reference_machine.specs.Boots.BootBatch.{Settles, Unstages, Does, Prunes, Clears}
use Rattle.reference_machine.specs.Deliveries.{BootUnit, units}
use Rattle.reference_machine.specs.Formats.{Formats}
use Rattle.reference_machine.specs.Laws.{Distinct}
use Rattle.bench_model.specs.Files.{File}
use Rattle.reference_machine.specs.Machine.{Machine}
use Rattle.reference_machine.proofs.Apart.{all_both, all_kept, all_imply, all_more, distinct_kept}
use Rattle.reference_machine.proofs.Apart.{distinct_more, kept_pass}
use Rattle.reference_machine.proofs.Filing.{has, same_of, has_all, has_filter, IsKnown}
use Rattle.reference_machine.proofs.Keys.{Numbered, units_numbered}
use Rattle.reference_machine.proofs.Ordered.{turned}

-- each number of a list stands in another
abbrev pub AllIn : List ℕ → List ℕ → Type 0
AllIn serials ns = AllByRecursion (λ s. has serials s ≡ true) ns

abbrev pub Once : List ℕ → Type 0
Once ns = Distinct (λ a b. a == b) ns

-- a filter keeps at most all
pub filter_most : {X : Type 0} (p : X → Bool) (xs : List X) → length (filter p xs) ≤ length xs
filter_most p [] = omega arith
filter_most p (x ∷ xs) =
    let h : length (filter p xs) ≤ length xs = filter_most p xs in
    elim (p x) as (λ b. length (cond b (x ∷ filter p xs) (filter p xs)) ≤ length (x ∷ xs)) [
      | true ↦ omega arith
      | false ↦ omega arith
    ]

-- and fewer where one is taken out
pub filter_fewer : {X : Type 0} (p : X → Bool) (xs : List X) → list_any p xs ≡ true
    → length (filter (λ x. not (p x)) xs) + 1 ≤ length xs
filter_fewer p [] h = absurd (cc)
filter_fewer {X} p (x ∷ xs) h =
    let most : length (filter (λ y. not (p y)) xs) ≤ length xs = filter_most (λ y. not (p y)) xs in
    elim (p x) as
    (λ b. (list_any p xs ≡ true → length (filter (λ y. not (p y)) xs) + 1 ≤ length xs)
    → (b || list_any p xs) ≡ true
    → length (cond (not b) (x ∷ filter (λ y. not (p y)) xs) (filter (λ y. not (p y)) xs)) + 1
    ≤ length (x ∷ xs)) [
      | true ↦ λ later k. omega arith
      | false ↦ λ later k. let e : length (filter (λ y. not (p y)) xs) + 1 ≤ length xs =
          later k in omega arith
    ] (filter_fewer p xs) h

-- numbers of a list, none twice, are at most as many
pub once_most : (serials ns : List ℕ) → Once ns → AllIn serials ns → length ns ≤ length serials
once_most serials [] once all = omega arith
once_most serials (n ∷ ns) once all =
    let fewer : length (filter (λ s. not (s == n)) serials) + 1 ≤ length serials =
    filter_fewer (λ s. s == n) serials all.0 in
    let rest : AllIn (filter (λ s. not (s == n)) serials) ns =
    all_both (λ s. (n == s) ≡ false) (λ s. has serials s ≡ true)
    (λ s. has (filter (λ t. not (t == n)) serials) s ≡ true)
    (λ s other h. has_filter (λ t. not (t == n)) serials s
    (ap not (turned n s other)) h) ns once.0 all.1 in
    let later : length ns ≤ length (filter (λ s. not (s == n)) serials) =
    once_most (filter (λ s. not (s == n)) serials) ns once.1 rest in
    omega arith

none_has : (ns : List ℕ) (n : ℕ) → has ns n ≡ false → AllByRecursion (λ m. (m == n) ≡ false) ns
none_has [] n h = tt
none_has (m ∷ ms) n h = by_test (m == n) refl (none_has ms n) h
  where
    by_test : (b : Bool) → (m == n) ≡ b
        → (has ms n ≡ false → AllByRecursion (λ k. (k == n) ≡ false) ms) → (b || has ms n) ≡ false
        → AllByRecursion (λ k. (k == n) ≡ false) (m ∷ ms)
    by_test true e later t = absurd (cc)
    by_test false e later t = (e, later t)

-- one serial more, where it is not there yet
pub once_with : (in_progress : List ℕ) (key : UnitKey) → Once in_progress
    → Once (progress_with in_progress key)
once_with in_progress key once = by_route (key.ticket.route == 1)
  where
    n : ℕ
    n = key.ticket.serial

    by_test : (b : Bool) → has in_progress n ≡ b → Once (cond b in_progress (in_progress ++ n ∷ []))
    by_test true e = once
    by_test false e =
        distinct_more (λ (a b : ℕ). a == b) in_progress n once (none_has in_progress n e)

    by_route : (r : Bool)
        → Once (cond r (cond (has in_progress n) in_progress (in_progress ++ n ∷ [])) in_progress)
    by_route true = by_test (has in_progress n) refl
    by_route false = once

pub all_with : (P : ℕ → Type 0) (in_progress : List ℕ) (key : UnitKey)
    → AllByRecursion P in_progress → P key.ticket.serial
    → AllByRecursion P (progress_with in_progress key)
all_with P in_progress key all h =
    elim (key.ticket.route == 1) as
    (λ r. AllByRecursion P
    (cond r (cond (has in_progress key.ticket.serial) in_progress
    (in_progress ++ key.ticket.serial ∷ [])) in_progress)) [
      | true ↦
          elim (has in_progress key.ticket.serial) as
          (λ b. AllByRecursion P (cond b in_progress (in_progress ++ key.ticket.serial ∷ []))) [
            | true ↦ all
            | false ↦ all_more P in_progress key.ticket.serial all h
          ]
      | false ↦ all
    ]

all_front : (P : ℕ → Type 0) (xs ys : List ℕ) → AllByRecursion P (xs ++ ys) → AllByRecursion P xs
all_front P [] ys all = tt
all_front P (x ∷ xs) ys all = (all.0, all_front P xs ys all.1)

pub all_without : (P : ℕ → Type 0) (in_progress : List ℕ) (key : UnitKey)
    → AllByRecursion P (progress_with in_progress key) → AllByRecursion P in_progress
all_without P in_progress key all =
    elim (key.ticket.route == 1) as
    (λ r. AllByRecursion P
    (cond r (cond (has in_progress key.ticket.serial) in_progress
    (in_progress ++ key.ticket.serial ∷ [])) in_progress) → AllByRecursion P in_progress) [
      | true ↦
          elim (has in_progress key.ticket.serial) as
          (λ b. AllByRecursion P (cond b in_progress (in_progress ++ key.ticket.serial ∷ []))
          → AllByRecursion P in_progress) [
            | true ↦ λ h. h
            | false ↦ λ h. all_front P in_progress (key.ticket.serial ∷ []) h
          ]
      | false ↦ λ h. h
    ] all

pub memory_keeps : (in_progress : List ℕ) (key : UnitKey) → key.ticket.route ≡ 0
    → progress_with in_progress key ≡ in_progress
memory_keeps in_progress key e =
    ap (λ r. cond (r == 1)
    (cond (has in_progress key.ticket.serial) in_progress
    (in_progress ++ key.ticket.serial ∷ [])) in_progress) e

-- where a unit of a file comes next, the serials in kept are of files that were there; pruning
-- makes them so
abbrev pub Ready : List ℕ → List ℕ → List BootTask → Type 0
Ready serials in_progress [] = Unit {0}
Ready serials in_progress (Commits (Settles kind end) ∷ rest) = Ready serials in_progress rest
Ready serials in_progress (Commits (Unstages pair) ∷ rest) = Ready serials in_progress rest
Ready serials in_progress (Commits (Does u) ∷ rest) =
    (u.key.ticket.route ≡ 1 → AllIn serials in_progress) × Ready serials in_progress rest
Ready serials in_progress (Commits Prunes ∷ rest) = Unit {0}
Ready serials in_progress (Removes serial ∷ rest) = Ready serials in_progress rest
Ready serials in_progress (Commits Clears ∷ rest) = Ready serials in_progress rest

pub ready_all : (serials in_progress : List ℕ) (left : List BootTask) → AllIn serials in_progress
    → Ready serials in_progress left
ready_all serials in_progress [] all = tt
ready_all serials in_progress (Commits (Settles kind end) ∷ rest) all =
    ready_all serials in_progress rest all
ready_all serials in_progress (Commits (Unstages pair) ∷ rest) all =
    ready_all serials in_progress rest all
ready_all serials in_progress (Commits (Does u) ∷ rest) all =
    (λ e. all, ready_all serials in_progress rest all)
ready_all serials in_progress (Commits Prunes ∷ rest) all = tt
ready_all serials in_progress (Removes serial ∷ rest) all = ready_all serials in_progress rest all
ready_all serials in_progress (Commits Clears ∷ rest) all = ready_all serials in_progress rest all

ready_units : (serials in_progress : List ℕ) (s n : ℕ) (us : List BootUnit) (rest : List BootTask)
    → Numbered 0 s n us → Ready serials in_progress rest
    → Ready serials in_progress (unit_tasks us ++ rest)
ready_units serials in_progress s n [] rest h r = r
ready_units serials in_progress s n (u ∷ us) rest h r = (
  λ e. absurd (let never : 0 ≡ 1 = sym h.0.route ∙ e in cc),
  ready_units serials in_progress s (n + 1) us rest h.1 r,
)

ready_pairs : (f : Formats) (m : Machine) (serials in_progress : List ℕ) (ps : List StagedPair)
    (rest : List BootTask) → Ready serials in_progress rest
    → Ready serials in_progress (flat_map (pair_tasks f m) ps ++ rest)
ready_pairs f m serials in_progress [] rest r = r
ready_pairs f m serials in_progress (p ∷ ps) rest r =
    let us : List BootUnit = units f (memory_delivery f m p) m.board in
    let numbered : Numbered 0 p.serial 0 us =
    units_numbered f (memory_delivery f m p) m.board in
    subst (Ready serials in_progress)
    (sym (append_assoc (unit_tasks us) (flat_map (pair_tasks f m) ps) rest))
    (ready_units serials in_progress p.serial 0 us (flat_map (pair_tasks f m) ps ++ rest) numbered
    (ready_pairs f m serials in_progress ps rest r))

-- a serial of a file that is there
pub file_in : (serials : List ℕ) (files : List File) (s : ℕ)
    → AllByRecursion (λ (x : File). has serials x.serial ≡ true) files → is_file files s ≡ true
    → has serials s ≡ true
file_in serials [] s all h = cc
file_in serials (x ∷ xs) s all h = by_test (x.serial == s) refl (file_in serials xs s all.1) h
  where
    by_test : (b : Bool) → (x.serial == s) ≡ b → (is_file xs s ≡ true → has serials s ≡ true)
        → (b || is_file xs s) ≡ true → has serials s ≡ true
    by_test true e later t = ap (has serials) (sym (same_of x.serial s e)) ∙ all.0
    by_test false e later t = later t

all_files : (files : List File) (ns : List ℕ) → list_any (λ s. not (is_file files s)) ns ≡ false
    → AllByRecursion (λ s. is_file files s ≡ true) ns
all_files files [] h = tt
all_files files (n ∷ ns) h = by_test (is_file files n) refl (all_files files ns) h
  where
    by_test : (b : Bool) → is_file files n ≡ b
        → (list_any (λ s. not (is_file files s)) ns ≡ false
        → AllByRecursion (λ s. is_file files s ≡ true) ns)
        → (not b || list_any (λ s. not (is_file files s)) ns) ≡ false
        → AllByRecursion (λ s. is_file files s ≡ true) (n ∷ ns)
    by_test true e later t = (e, later t)
    by_test false e later t = absurd (cc)

ready_folder : (f : Formats) (m : Machine) (serials : List ℕ)
    → AllByRecursion (λ (x : File). has serials x.serial ≡ true) m.files
    → Ready serials m.in_progress (folder_tasks f m)
ready_folder f m serials there = by_bit m.is_signalled
  where
    files : List BootTask
    files = flat_map (file_tasks f m) (files_in_order m)

    by_test : (t : Bool) → list_any (λ s. not (is_file m.files s)) m.in_progress ≡ t
        → Ready serials m.in_progress
        (cond t (Commits Prunes ∷ []) [] ++ (files ++ Commits Clears ∷ []))
    by_test true e = tt
    by_test false e =
        ready_all serials m.in_progress (files ++ Commits Clears ∷ [])
        (all_imply (λ s. is_file m.files s ≡ true) (λ s. has serials s ≡ true)
        (λ s h. file_in serials m.files s there h) m.in_progress
        (all_files m.files m.in_progress e))

    by_bit : (t : Bool)
        → Ready serials m.in_progress
        (cond t
        (cond (list_any (λ s. not (is_file m.files s)) m.in_progress) (Commits Prunes ∷ []) []
        ++ files ++ Commits Clears ∷ []) [])
    by_bit true =
        subst (Ready serials m.in_progress)
        (sym (append_assoc
        (cond (list_any (λ s. not (is_file m.files s)) m.in_progress) (Commits Prunes ∷ []) [])
        files
        (Commits Clears ∷ [])))
        (by_test (list_any (λ s. not (is_file m.files s)) m.in_progress) refl)
    by_bit false = tt

pub ready_work : (f : Formats) (m : Machine) (serials : List ℕ)
    → AllByRecursion (λ (x : File). has serials x.serial ≡ true) m.files
    → Ready serials m.in_progress (staged_tasks f m ++ folder_tasks f m)
ready_work f m serials there =
    ready_pairs f m serials m.in_progress (staged_in_order m) (folder_tasks f m)
    (ready_folder f m serials there)

-- the serials that are kept, over those of the files that were there when the boot began
pub record KeptIs (serials : List ℕ) (last : ℕ) (in_progress : List ℕ)
    (left : List BootTask) : Type 0 where
  pub once : Once in_progress
  pub few : length in_progress ≤ MAX_FILES
  pub below : AllByRecursion (λ s. s ≤ last) in_progress
  pub ready : Ready serials in_progress left

-- they are few where they are of such files
pub kept_in : (serials : List ℕ) (last : ℕ) (in_progress : List ℕ) (left : List BootTask)
    → length serials ≤ MAX_FILES → Once in_progress → AllByRecursion (λ s. s ≤ last) in_progress
    → AllIn serials in_progress → KeptIs serials last in_progress left
kept_in serials last in_progress left few once below all = record {
  once = once;
  few = (let most : length in_progress
      ≤ length serials = once_most serials in_progress once all in omega arith);
  below = below;
  ready = ready_all serials in_progress left all;
}

-- a unit more
pub kept_unit : (serials : List ℕ) (staged last : ℕ) (in_progress : List ℕ) (u : BootUnit)
    (rest : List BootTask) → length serials ≤ MAX_FILES → AllByRecursion (λ s. s ≤ last) serials
    → IsKnown staged serials u.key → KeptIs serials last in_progress (Commits (Does u) ∷ rest)
    → KeptIs serials last (progress_with in_progress u.key) rest
kept_unit serials staged last in_progress u rest few below (inl h) k =
    subst (λ ns. KeptIs serials last ns rest) (sym (memory_keeps in_progress u.key h.0))
    (record { once = k.once; few = k.few; below = k.below; ready = k.ready.1 })
kept_unit serials staged last in_progress u rest few below (inr h) k =
    kept_in serials last (progress_with in_progress u.key) rest few
    (once_with in_progress u.key k.once)
    (all_with (λ s. s ≤ last) in_progress u.key k.below
    (has_all (λ s. s ≤ last) serials u.key.ticket.serial below h.1))
    (all_with (λ s. has serials s ≡ true) in_progress u.key (k.ready.0 h.0) h.1)

-- pruned
pub kept_pruned : (serials : List ℕ) (last : ℕ) (files : List File) (in_progress : List ℕ)
    (left rest : List BootTask) → length serials ≤ MAX_FILES
    → AllByRecursion (λ (x : File). has serials x.serial ≡ true) files
    → KeptIs serials last in_progress left
    → KeptIs serials last (filter (is_file files) in_progress) rest
kept_pruned serials last files in_progress left rest few there k =
    kept_in serials last (filter (is_file files) in_progress) rest few
    (distinct_kept (λ (a b : ℕ). a == b) (is_file files) in_progress k.once)
    (all_kept (λ s. s ≤ last) (is_file files) in_progress k.below)
    (all_imply (λ s. is_file files s ≡ true) (λ s. has serials s ≡ true)
    (λ s h. file_in serials files s there h) (filter (is_file files) in_progress)
    (kept_pass (is_file files) in_progress))
