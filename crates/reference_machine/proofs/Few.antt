-- In every machine that is reached a file has few spent units: a delivery has few.
use Rattle.std.proofs.Common.{◌≡◌, ℕ, zero, suc, ◌+◌, ◌<◌, ◌≤◌, Bool, true, false, cond, ◌&&◌}
use Rattle.std.proofs.Common.{◌==◌, List, [], ◌∷◌, ◌++◌, length, filter, flat_map, find, drop, refl}
use Rattle.std.proofs.Common.{arith, sym, ap, ◌∙◌, subst, append_assoc, append-nil, Option, Some}
use Rattle.std.proofs.Common.{None}
use Rattle.std.specs.List.{AllByRecursion}
use Rattle.std.proofs.lemmas.Bool.{and_parts, eqb-true}
use Rattle.bench_model.specs.Boards.{BoardValue, IsBoard}
use Rattle.bench_model.specs.Files.{File}
use Rattle.reference_machine.specs.Boots.{BootTask, BootState, Course, after, after_unit}
use Rattle.reference_machine.specs.Boots.{after_steps, boot_start, boot_at, boot_tasks, tasks_with}
use Rattle.reference_machine.specs.Boots.{course_of, element_of, file_delivery, file_tasks}
use Rattle.reference_machine.specs.Boots.{files_in_order, folder_tasks, memory_delivery, pair_tasks}
use Rattle.reference_machine.specs.Boots.{prune_tasks, settled, staged_in_order, staged_tasks}
use Rattle.reference_machine.specs.Boots.{unit_tasks}
use Rattle.reference_machine.specs.Boots.BootTask.{Commits, Removes}
use Rattle.reference_machine.specs.Boots.BootBatch.{Settles, Unstages, Does, Prunes, Clears}
use Rattle.reference_machine.specs.Boots.Course.{Claim, Close}
use Rattle.reference_machine.specs.Deliveries.{BootUnit, units}
use Rattle.reference_machine.specs.Formats.{Formats}
use Rattle.reference_machine.specs.Laws.{IsReached, KeepsLimits}
use Rattle.reference_machine.specs.Machine.{Machine}
use Rattle.reference_machine.specs.Spent.{Element, Standing, is_closed, is_of, is_open, spent}
use Rattle.reference_machine.specs.Spent.Standing.{Open, Closed}
use Rattle.reference_machine.specs.declared.snapshot.StagedPair.{StagedPair}
use Rattle.reference_machine.specs.declared.unit.End.{End}
use Rattle.reference_machine.specs.declared.unit.UnitKey.{UnitKey}
use Rattle.reference_machine.proofs.Apart.{all_more}
use Rattle.reference_machine.proofs.Keeping.{Keeps, reached_keeps}
use Rattle.reference_machine.proofs.Keyed.{settled_keys}
use Rattle.reference_machine.proofs.Keys.{Gapless, Numbered, count, count_more, count_other, keys_of}
use Rattle.reference_machine.proofs.Keys.{keys_append, units_numbered}
use Rattle.reference_machine.proofs.Reached.{orderly}
use Rattle.reference_machine.proofs.Short.{boot_board, settled_board, units_few}

-- the number of a unit is below the most units that a delivery has
abbrev pub IsLow : UnitKey → Type 0
IsLow k = k.unit < 2048

abbrev pub AreLow : List BootTask → Type 0
AreLow [] = Unit {0}
AreLow (Commits (Settles kind end) ∷ rest) = AreLow rest
AreLow (Commits (Unstages pair) ∷ rest) = AreLow rest
AreLow (Commits (Does u) ∷ rest) = IsLow u.key × AreLow rest
AreLow (Commits Prunes ∷ rest) = AreLow rest
AreLow (Removes serial ∷ rest) = AreLow rest
AreLow (Commits Clears ∷ rest) = AreLow rest

low_append : (xs ys : List BootTask) → AreLow xs → AreLow ys → AreLow (xs ++ ys)
low_append [] ys a b = b
low_append (Commits (Settles kind end) ∷ xs) ys a b = low_append xs ys a b
low_append (Commits (Unstages pair) ∷ xs) ys a b = low_append xs ys a b
low_append (Commits (Does u) ∷ xs) ys a b = (a.0, low_append xs ys a.1 b)
low_append (Commits Prunes ∷ xs) ys a b = low_append xs ys a b
low_append (Removes serial ∷ xs) ys a b = low_append xs ys a b
low_append (Commits Clears ∷ xs) ys a b = low_append xs ys a b

low_does : (us : List BootUnit) → AllByRecursion (λ u. IsLow u.key) us → AreLow (unit_tasks us)
low_does [] all = tt
low_does (u ∷ us) all = (all.0, low_does us all.1)

low_each : {X : Type 0} (g : X → List BootTask) → ((x : X) → AreLow (g x)) → (xs : List X)
    → AreLow (flat_map g xs)
low_each g h [] = tt
low_each g h (x ∷ xs) = low_append (g x) (flat_map g xs) (h x) (low_each g h xs)

numbered_low : (r s n : ℕ) (us : List BootUnit) → Numbered r s n us → n + length us ≤ 2048
    → AllByRecursion (λ u. IsLow u.key) us
numbered_low r s n [] h few = tt
numbered_low r s n (u ∷ us) h few =
    let is : u.key.unit ≡ n = h.0.number in
    (omega arith, numbered_low r s (n + 1) us h.1 (omega arith))

all_dropped : {X : Type 0} (P : X → Type 0) (k : ℕ) (xs : List X) → AllByRecursion P xs
    → AllByRecursion P (drop k xs)
all_dropped P zero xs all = all
all_dropped P (suc k) [] all = tt
all_dropped P (suc k) (x ∷ xs) all = all_dropped P k xs all.1

-- a step of a unit adds its key
unit_low : (f : Formats) (b : BootState) (u : BootUnit) (rest : List BootTask) (c : Course)
    → AllByRecursion IsLow (keys_of b.machine.list) → IsLow u.key → AreLow rest
    → AllByRecursion IsLow (keys_of (after_unit f b u rest c).machine.list)
    × AreLow (after_unit f b u rest c).left
unit_low f b u rest c all low left = by_course c
  where
    one_more : (s : Standing)
        → AllByRecursion IsLow (keys_of (b.machine.list ++ element_of f u s ∷ []))
    one_more s =
        subst (AllByRecursion IsLow) (sym (keys_append b.machine.list (element_of f u s ∷ [])))
        (all_more IsLow (keys_of b.machine.list) u.key all low)

    by_course : (d : Course)
        → AllByRecursion IsLow (keys_of (after_unit f b u rest d).machine.list)
        × AreLow (after_unit f b u rest d).left
    by_course Claim = (one_more Open, left)
    by_course (Close end) = (one_more (Closed end b.machine.now), left)

after_low : (f : Formats) (b : BootState) (left : List BootTask) → b.left ≡ left
    → AllByRecursion IsLow (keys_of b.machine.list) → AreLow left
    → AllByRecursion IsLow (keys_of (after f b left).machine.list) × AreLow (after f b left).left
after_low f b [] e all low = (all, subst AreLow (sym e) low)
after_low f b (Commits (Settles kind end) ∷ rest) e all low = (
  subst (AllByRecursion IsLow)
      (sym (settled_keys b.machine end (find is_open b.machine.list))) all,
  low,
)
after_low f b (Commits (Unstages p) ∷ rest) e all low = (all, low)
after_low f b (Commits (Does u) ∷ rest) e all low =
    unit_low f b u rest (course_of f b.machine u u.kind) all low.0 low.1
after_low f b (Commits Prunes ∷ rest) e all low = (all, low)
after_low f b (Removes serial ∷ rest) e all low = (all, low)
after_low f b (Commits Clears ∷ rest) e all low = (all, low)

steps_low : (f : Formats) (n : ℕ) (b : BootState) → AllByRecursion IsLow (keys_of b.machine.list)
    → AreLow b.left
    → AllByRecursion IsLow (keys_of (after_steps f n b).machine.list)
    × AreLow (after_steps f n b).left
steps_low f zero b all low = (all, low)
steps_low f (suc n) b all low =
    let before = steps_low f n b all low in
    after_low f (after_steps f n b) (after_steps f n b).left refl before.0 before.1

module _ (f : Formats) (limits : KeepsLimits f) where
  pair_low : (m : Machine) (p : StagedPair) → length m.board.devices ≤ 16
      → AreLow (pair_tasks f m p)
  pair_low m p few =
      let most : length (units f (memory_delivery f m p) m.board) ≤ 2048 =
      units_few f limits (memory_delivery f m p) m.board few in
      low_does (units f (memory_delivery f m p) m.board)
      (numbered_low 0 p.serial 0 (units f (memory_delivery f m p) m.board)
      (units_numbered f (memory_delivery f m p) m.board) (omega arith))

  file_low : (m : Machine) (x : File) → length m.board.devices ≤ 16 → AreLow (file_tasks f m x)
  file_low m x few =
      let us : List BootUnit = units f (file_delivery x) m.board in
      let most : length us ≤ 2048 = units_few f limits (file_delivery x) m.board few in
      low_append (unit_tasks (drop (spent m.list x.serial) us)) (Removes x.serial ∷ [])
      (low_does (drop (spent m.list x.serial) us)
      (all_dropped (λ u. IsLow u.key) (spent m.list x.serial) us
      (numbered_low 1 x.serial 0 us (units_numbered f (file_delivery x) m.board) (omega arith)))) tt

  prune_low : (m : Machine) → AreLow (prune_tasks m)
  prune_low m = by_test _
    where
      by_test : (t : Bool) → AreLow (cond t (Commits Prunes ∷ []) [])
      by_test true = tt
      by_test false = tt

  folder_low : (m : Machine) → length m.board.devices ≤ 16 → AreLow (folder_tasks f m)
  folder_low m few = by_bit m.is_signalled
    where
      works : List BootTask
      works = flat_map (file_tasks f m) (files_in_order m)

      by_bit : (t : Bool) → AreLow (cond t (prune_tasks m ++ works ++ Commits Clears ∷ []) [])
      by_bit true =
          low_append (prune_tasks m ++ works) (Commits Clears ∷ [])
          (low_append (prune_tasks m) works (prune_low m)
          (low_each (file_tasks f m) (λ x. file_low m x few) (files_in_order m))) tt
      by_bit false = tt

  work_low : (m : Machine) → length m.board.devices ≤ 16
      → AreLow (staged_tasks f m ++ folder_tasks f m)
  work_low m few =
      low_append (staged_tasks f m) (folder_tasks f m)
      (low_each (pair_tasks f m) (λ p. pair_low m p few) (staged_in_order m)) (folder_low m few)

  start_low : (m : Machine) (h : End) → length m.board.devices ≤ 16 → AreLow (boot_tasks f m h)
  start_low m h few = by_found (find is_open m.list)
    where
      by_found : (o : Option Element) → AreLow (tasks_with f m h o)
      by_found None = work_low m few
      by_found (Some e) =
          work_low (settled m h)
          (subst (λ (b : BoardValue). length b.devices ≤ 16)
          (sym (settled_board m h (find is_open m.list))) few)

  -- a board of few devices, and low numbers
  pub record IsFew (m : Machine) : Type 0 where
    pub devices : length m.board.devices ≤ 16
    pub keys : AllByRecursion IsLow (keys_of m.list)

  pub boot_low : (m : Machine) (h : End) (j : ℕ) → IsFew m
      → AllByRecursion IsLow (keys_of (boot_at f m h j).machine.list)
      × AreLow (boot_at f m h j).left
  boot_low m h j few =
      steps_low f j (boot_start f m h) few.keys (start_low m h few.devices)

  few_keeps : Keeps f IsFew
  few_keeps = record {
    fails = λ m p. record { devices = p.devices; keys = p.keys };
    later = λ m moment p. record { devices = p.devices; keys = p.keys };
    puts = λ m file bytes e p. record { devices = p.devices; keys = p.keys };
    asks = λ m p. record { devices = p.devices; keys = p.keys };
    lays = λ m address bytes p. record { devices = p.devices; keys = p.keys };
    stages = λ m address e p. record { devices = p.devices; keys = p.keys };
    cold = λ m p. record { devices = p.devices; keys = p.keys };
    warm = λ m p. record { devices = p.devices; keys = p.keys };
    boots = λ m h j held p. record {
      devices = subst (λ (b : BoardValue). length b.devices ≤ 16) (sym (boot_board f m h j))
          p.devices;
      keys = (boot_low m h j p).0;
    };
  }

  pub reached_few : (board : BoardValue) (m : Machine) → IsBoard board → IsReached f board m
      → IsFew m
  reached_few board m is r =
      reached_keeps f IsFew few_keeps board m
      (record { devices = omega (arith, is.devices); keys = tt }) r

-- keys of one delivery are few, since each is preceded by as many as its number says
count_few : (r s : ℕ) (before ks : List UnitKey) → Gapless before ks → AllByRecursion IsLow ks
    → count r s before ≤ 2048 → count r s (before ++ ks) ≤ 2048
count_few r s before [] g all few =
    subst (λ l. count r s l ≤ 2048) (sym (append-nil before)) few
count_few r s before (k ∷ ks) g all few =
    subst (λ l. count r s l ≤ 2048) (append_assoc before (k ∷ []) ks)
    (count_few r s (before ++ k ∷ []) ks g.1 all.1 (by_test (is_of r s k) refl))
  where
    by_test : (b : Bool) → is_of r s k ≡ b → count r s (before ++ k ∷ []) ≤ 2048
    by_test true e =
        let parts = and_parts (k.ticket.route == r) (k.ticket.serial == s) e in
        let route : k.ticket.route ≡ r = eqb-true k.ticket.route r parts.0 in
        let serial : k.ticket.serial ≡ s = eqb-true k.ticket.serial s parts.1 in
        let unit : k.unit ≡ count r s before =
        g.0 ∙ ap (λ n. count n k.ticket.serial before) route ∙ ap (λ n. count r n before) serial in
        let more : count r s (before ++ k ∷ []) ≡ count r s before + 1 = count_more r s before k e in
        omega (arith, all.0)
    by_test false e =
        let same : count r s (before ++ k ∷ []) ≡ count r s before = count_other r s before k e in
        omega arith

-- the spent units of a file are among all of its units
spent_most : (list : List Element) (serial : ℕ) → spent list serial ≤ count 1 serial (keys_of list)
spent_most [] serial = omega arith
spent_most (e ∷ es) serial =
    let later : spent es serial ≤ count 1 serial (keys_of es) = spent_most es serial in
    by_test (is_of 1 serial e.key) (is_closed e) later
  where
    by_test : (b c : Bool) → spent es serial ≤ count 1 serial (keys_of es)
        → length (cond (b && c)
        (e ∷ filter (λ x. is_of 1 serial x.key && is_closed x) es)
        (filter (λ x. is_of 1 serial x.key && is_closed x) es))
        ≤ length (cond b (e.key ∷ filter (is_of 1 serial) (keys_of es))
        (filter (is_of 1 serial) (keys_of es)))
    by_test true true later = omega arith
    by_test true false later = omega arith
    by_test false c later = later

pub spent_few : (f : Formats) (board : BoardValue) (m : Machine) → KeepsLimits f → IsBoard board
    → IsReached f board m → (serial : ℕ) → spent m.list serial ≤ 2048
spent_few f board m limits is r serial =
    let all : count 1 serial (keys_of m.list) ≤ 2048 =
    count_few 1 serial [] (keys_of m.list) (orderly f board m r).keyed.gapless
    (reached_few f limits board m is r).keys (omega arith) in
    let most : spent m.list serial ≤ count 1 serial (keys_of m.list) = spent_most m.list serial in
    omega arith
