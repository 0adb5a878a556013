-- A boot is short: a delivery has few units, and there are few deliveries.
use Rattle.std.proofs.Common.{◌≡◌, ℕ, zero, suc, ◌+◌, ◌-◌, ◌*◌, ◌<◌, ◌≤◌, ◌^◌, Bool, true, false}
use Rattle.std.proofs.Common.{cond, ◌||◌, List, [], ◌∷◌, ◌++◌, length, filter, flat_map, find}
use Rattle.std.proofs.Common.{drop, refl, arith, sym, ap, ◌∙◌, subst, nat_lt, Option, Some, None}
use Rattle.std.proofs.Common.{option_and_then}
use Rattle.std.specs.List.{enumerate_from}
use Rattle.std.proofs.lemmas.Bool.Decides.{nat_tests}
use Rattle.std.proofs.lemmas.List.{length-append, length-drop, length-map}
use Rattle.std.proofs.lemmas.List.FromFn.{length-enumerate_from}
use Rattle.bench_model.specs.Boards.{BoardValue}
use Rattle.cu_base.specs.declared.guid.Guid.{Guid}
use Rattle.bench_model.specs.Devices.{DeviceValue}
use Rattle.reference_machine.specs.declared.snapshot.StagedPair.{StagedPair}
use Rattle.reference_machine.specs.declared.unit.End.{End}
use Rattle.reference_machine.specs.declared.unit.Kind.{Kind}
use Rattle.reference_machine.specs.declared.unit.Kind.TheVariants.{Try}
use Rattle.reference_machine.specs.Boots.{BootTask, BootState, Course, after, after_unit, next}
use Rattle.reference_machine.specs.Boots.{after_steps, boot_start, boot_at, boot_tasks, tasks_with}
use Rattle.reference_machine.specs.Boots.{staged_tasks, folder_tasks, file_tasks, file_delivery}
use Rattle.reference_machine.specs.Boots.{files_in_order, pair_tasks, memory_delivery}
use Rattle.reference_machine.specs.Boots.{staged_in_order, prune_tasks, course_of, settled}
use Rattle.reference_machine.specs.Boots.{settled_with, unit_tasks}
use Rattle.reference_machine.specs.Boots.BootTask.{Commits, Removes}
use Rattle.reference_machine.specs.Boots.BootBatch.{Settles, Unstages, Does, Prunes, Clears}
use Rattle.reference_machine.specs.Boots.Course.{Claim, Close}
use Rattle.reference_machine.specs.Deliveries.{BootUnit, Delivery, units, decoded_units}
use Rattle.reference_machine.specs.Deliveries.{capsule_units, item_units, is_passed_over}
use Rattle.reference_machine.specs.Deliveries.{is_target, targets, numbered, tries_on, item_unit}
use Rattle.reference_machine.specs.Formats.{Capsule, Formats, Item, ItemHead}
use Rattle.reference_machine.specs.Laws.{IsWithinLimits, KeepsLimits}
use Rattle.bench_model.specs.Files.{File}
use Rattle.reference_machine.specs.Machine.{Machine}
use Rattle.reference_machine.specs.Names.{is_taken_before}
use Rattle.reference_machine.specs.Spent.{Element, is_open, spent}
use Rattle.reference_machine.proofs.Ending.{weight, weight_most}
use Rattle.reference_machine.proofs.Keeping.{Keeps}
use Rattle.reference_machine.proofs.KeptLemmas.{filter_most}
use Rattle.reference_machine.proofs.Ordered.{ordered_length}
use Rattle.reference_machine.proofs.SpentFiles.{settled_files}
use Rattle.reference_machine.proofs.Keyed.{settled_staged}

-- the board stays
pub settled_board : (m : Machine) (end : End) (o : Option Element)
    → (settled_with m end o).board ≡ m.board
settled_board m end None = refl
settled_board m end (Some e) = refl

unit_board : (f : Formats) (b : BootState) (u : BootUnit) (rest : List BootTask) (c : Course)
    → (after_unit f b u rest c).machine.board ≡ b.machine.board
unit_board f b u rest Claim = refl
unit_board f b u rest (Close end) = refl

after_board : (f : Formats) (b : BootState) (left : List BootTask)
    → (after f b left).machine.board ≡ b.machine.board
after_board f b [] = refl
after_board f b (Commits (Settles kind end) ∷ rest) =
    settled_board b.machine end (find is_open b.machine.list)
after_board f b (Commits (Unstages pair) ∷ rest) = refl
after_board f b (Commits (Does u) ∷ rest) = unit_board f b u rest (course_of f b.machine u u.kind)
after_board f b (Commits Prunes ∷ rest) = refl
after_board f b (Removes serial ∷ rest) = refl
after_board f b (Commits Clears ∷ rest) = refl

steps_board : (f : Formats) (n : ℕ) (b : BootState)
    → (after_steps f n b).machine.board ≡ b.machine.board
steps_board f zero b = refl
steps_board f (suc n) b =
    after_board f (after_steps f n b) (after_steps f n b).left ∙ steps_board f n b

pub boot_board : (f : Formats) (m : Machine) (h : End) (j : ℕ)
    → (boot_at f m h j).machine.board ≡ m.board
boot_board f m h j = steps_board f j (boot_start f m h)

pub board_keeps : (f : Formats) (board : BoardValue) → Keeps f (λ m. m.board ≡ board)
board_keeps f board = record {
  fails = λ m e. e;
  later = λ m moment e. e;
  puts = λ m file bytes room e. e;
  asks = λ m e. e;
  lays = λ m address bytes e. e;
  stages = λ m address fits e. e;
  cold = λ m e. e;
  warm = λ m e. e;
  boots = λ m h j held e. boot_board f m h j ∙ e;
}

-- a step is told, and leaves as much less
unit_weighs : (f : Formats) (b : BootState) (u : BootUnit) (rest : List BootTask) (c : Course)
    → (after_unit f b u rest c).report.steps + weight (after_unit f b u rest c).left
    ≤ b.report.steps + (weight rest + 2)
unit_weighs f b u rest Claim = omega arith
unit_weighs f b u rest (Close end) = omega arith

after_weighs : (f : Formats) (b : BootState) (left : List BootTask) → b.left ≡ left
    → (after f b left).report.steps + weight (after f b left).left ≤ b.report.steps + weight left
after_weighs f b [] e = let h : weight b.left ≡ 0 = ap weight e in omega arith
after_weighs f b (Commits (Settles kind end) ∷ rest) e = omega arith
after_weighs f b (Commits (Unstages pair) ∷ rest) e = omega arith
after_weighs f b (Commits (Does u) ∷ rest) e =
    unit_weighs f b u rest (course_of f b.machine u u.kind)
after_weighs f b (Commits Prunes ∷ rest) e = omega arith
after_weighs f b (Removes serial ∷ rest) e = omega arith
after_weighs f b (Commits Clears ∷ rest) e = omega arith

steps_weigh : (f : Formats) (n : ℕ) (b : BootState)
    → (after_steps f n b).report.steps + weight (after_steps f n b).left
    ≤ b.report.steps + weight b.left
steps_weigh f zero b = omega arith
steps_weigh f (suc n) b =
    let h : (after_steps f n b).report.steps + weight (after_steps f n b).left
    ≤ b.report.steps + weight b.left = steps_weigh f n b in
    let k : (next f (after_steps f n b)).report.steps + weight (next f (after_steps f n b)).left
    ≤ (after_steps f n b).report.steps + weight (after_steps f n b).left =
    after_weighs f (after_steps f n b) (after_steps f n b).left refl in
    omega arith

-- lists end to end, of few items each
few_each : {X Y : Type 0} (g : X → List Y) (most : ℕ) → ((x : X) → length (g x) ≤ most)
    → (xs : List X) → length (flat_map g xs) ≤ most * length xs
few_each g most h [] = omega arith
few_each g most h (x ∷ xs) =
    let here : length (g x) ≤ most = h x in
    let later : length (flat_map g xs) ≤ most * length xs = few_each g most h xs in
    let both : length (g x ++ flat_map g xs) ≡ length (g x) + length (flat_map g xs) =
    length-append (g x) (flat_map g xs) in
    omega arith

-- the targets of an item are devices of the board
targets_few : (h : ItemHead) (board : BoardValue) → length board.devices ≤ 16
    → length (targets h board) ≤ 16
targets_few h board few =
    let met : List (ℕ × DeviceValue) =
    filter (λ (p : ℕ × DeviceValue). is_target h p.1) (enumerate_from 0 board.devices) in
    let same : length (targets h board) ≡ length met =
    length-map met (λ (p : ℕ × DeviceValue). p.0) in
    let most : length met ≤ length (enumerate_from 0 board.devices) =
    filter_most (λ (p : ℕ × DeviceValue). is_target h p.1) (enumerate_from 0 board.devices) in
    let all : length (enumerate_from 0 board.devices) ≡ length board.devices =
    length-enumerate_from 0 board.devices in
    omega arith

tries_few : (unit : Kind → ℕ → BootUnit) (ts : List ℕ) → length ts ≤ 16
    → length (tries_on unit ts) ≤ 16
tries_few unit [] few = omega arith
tries_few unit (t ∷ ts) few = rw (length-map (t ∷ ts) (unit Try)) few

item_few : (board : BoardValue) (d : Delivery) (n : ℕ) (guid : Guid) (p : ℕ × Item)
    → length board.devices ≤ 16 → length (item_units board d n guid p) ≤ 16
item_few board d n guid p few =
    tries_few (item_unit d n guid p) (targets p.1.head board) (targets_few p.1.head board few)

not_first : (a b : Bool) → (a || b) ≡ false → b ≡ false
not_first true b h = cc
not_first false b h = h

below_test : (limit n : ℕ) → nat_lt limit n ≡ false → n ≤ limit
below_test limit n h = grind (arith, nat_tests)

capsule_few : (board : BoardValue) (d : Delivery) (p : ℕ × Capsule) → length board.devices ≤ 16
    → length (capsule_units board d p) ≤ 256
capsule_few board d (n, c) few = by_test (is_passed_over c) refl
  where
    by_test : (b : Bool) → is_passed_over c ≡ b → length (capsule_units board d (n, c)) ≤ 256
    by_test true e = rw e (omega arith)
    by_test false e =
        let items : length c.items ≤ 16 =
        below_test 16 (length c.items) (not_first _ (nat_lt 16 (length c.items)) e) in
        let all : length (enumerate_from 0 c.items) ≡ length c.items =
        length-enumerate_from 0 c.items in
        let most : length (flat_map (item_units board d n c.guid) (enumerate_from 0 c.items))
        ≤ 16 * length (enumerate_from 0 c.items) =
        few_each (item_units board d n c.guid) 16 (λ p. item_few board d n c.guid p few)
        (enumerate_from 0 c.items) in
        let sum : length (flat_map (item_units board d n c.guid) (enumerate_from 0 c.items)) ≤ 256 =
        omega arith in
        rw e sum

module _ (f : Formats) (limits : KeepsLimits f) where
  decoded_few : (d : Delivery) (board : BoardValue) (bytes : Option (List ℕ))
      → length board.devices ≤ 16
      → length (decoded_units board d (option_and_then f.capsules bytes)) ≤ 2048
  decoded_few d board None few = omega arith
  decoded_few d board (Some b) few = by_found (f.capsules b) refl
    where
      by_found : (o : Option (List Capsule)) → f.capsules b ≡ o
          → length (decoded_units board d o) ≤ 2048
      by_found None e = omega arith
      by_found (Some found) e =
          let most : length found ≤ 8 = limits.capsules b found e in
          let all : length (enumerate_from 0 found) ≡ length found =
          length-enumerate_from 0 found in
          let sum : length (flat_map (capsule_units board d) (enumerate_from 0 found))
          ≤ 256 * length (enumerate_from 0 found) =
          few_each (capsule_units board d) 256 (λ p. capsule_few board d p few)
          (enumerate_from 0 found) in
          omega arith

  pub units_few : (d : Delivery) (board : BoardValue) → length board.devices ≤ 16
      → length (units f d board) ≤ 2048
  units_few d board few =
      let us : List BootUnit = decoded_units board d (option_and_then f.capsules d.bytes) in
      let most : length us ≤ 2048 = decoded_few d board d.bytes few in
      let all : length (enumerate_from 0 us) ≡ length us = length-enumerate_from 0 us in
      let same : length (units f d board) ≡ length (enumerate_from 0 us) =
      length-map (enumerate_from 0 us) numbered in
      omega arith

  staged_few : (m : Machine) → length m.board.devices ≤ 16 → length m.staged ≤ 8
      → length (staged_tasks f m) ≤ 16392
  staged_few m few staged =
      let each : (p : StagedPair) → length (pair_tasks f m p) ≤ 2049 = λ p.
      let us : List BootUnit = units f (memory_delivery f m p) m.board in
      let most : length us ≤ 2048 = units_few (memory_delivery f m p) m.board few in
      let same : length (unit_tasks us) ≡ length us = length-map us (λ u. Commits (Does u)) in
      omega arith in
      let sum : length (staged_tasks f m) ≤ 2049 * length (staged_in_order m) =
      few_each (pair_tasks f m) 2049 each (staged_in_order m) in
      let all : length (staged_in_order m) ≡ length m.staged =
      ordered_length (λ a b. nat_lt a.serial b.serial) m.staged in
      omega arith

  file_few : (m : Machine) (x : File) → length m.board.devices ≤ 16
      → length (file_tasks f m x) ≤ 2049
  file_few m x few =
      let us : List BootUnit = units f (file_delivery x) m.board in
      let left : List BootUnit = drop (spent m.list x.serial) us in
      let most : length us ≤ 2048 = units_few (file_delivery x) m.board few in
      let fewer : length left ≡ length us - spent m.list x.serial =
      length-drop (spent m.list x.serial) us in
      let same : length (unit_tasks left) ≡ length left = length-map left (λ u. Commits (Does u)) in
      let more : length (unit_tasks left ++ Removes x.serial ∷ []) ≡ length (unit_tasks left) + 1 =
      length-append (unit_tasks left) (Removes x.serial ∷ []) in
      omega arith

  prune_few : (m : Machine) → length (prune_tasks m) ≤ 1
  prune_few m = by_test _
    where
      by_test : (t : Bool) → length (cond t (Commits Prunes ∷ []) []) ≤ 1
      by_test true = omega arith
      by_test false = omega arith

  folder_few : (m : Machine) → length m.board.devices ≤ 16 → length m.files ≤ 64
      → length (folder_tasks f m) ≤ 131138
  folder_few m few files = by_bit m.is_signalled
    where
      works : List BootTask
      works = flat_map (file_tasks f m) (files_in_order m)

      sum : length works ≤ 2049 * length (files_in_order m)
      sum = few_each (file_tasks f m) 2049 (λ x. file_few m x few) (files_in_order m)

      all : length (files_in_order m) ≡ length m.files
      all = ordered_length (λ a b. is_taken_before a.name b.name) m.files

      all_of_it : length (prune_tasks m ++ works ++ Commits Clears ∷ [])
          ≡ length (prune_tasks m) + length works + 1
      all_of_it =
          let a : length ((prune_tasks m ++ works) ++ Commits Clears ∷ [])
          ≡ length (prune_tasks m ++ works) + 1 =
          length-append (prune_tasks m ++ works) (Commits Clears ∷ []) in
          let b : length (prune_tasks m ++ works) ≡ length (prune_tasks m) + length works =
          length-append (prune_tasks m) works in
          omega arith

      by_bit : (t : Bool)
          → length (cond t (prune_tasks m ++ works ++ Commits Clears ∷ []) []) ≤ 131138
      by_bit true = let s = sum in let a = all in let w =
          all_of_it in let p : length (prune_tasks m) ≤ 1 = prune_few m in omega arith
      by_bit false = omega arith

  both_few : (m : Machine) → length m.board.devices ≤ 16 → length m.staged ≤ 8 → length m.files ≤ 64
      → length (staged_tasks f m ++ folder_tasks f m) ≤ 147530
  both_few m few staged files =
      let a : length (staged_tasks f m) ≤ 16392 = staged_few m few staged in
      let b : length (folder_tasks f m) ≤ 131138 = folder_few m few files in
      let both : length (staged_tasks f m ++ folder_tasks f m)
      ≡ length (staged_tasks f m) + length (folder_tasks f m) =
      length-append (staged_tasks f m) (folder_tasks f m) in
      omega arith

  work_few : (m : Machine) (h : End) → length m.board.devices ≤ 16 → IsWithinLimits m
      → length (boot_tasks f m h) ≤ 147531
  work_few m h few limits = by_found (find is_open m.list)
    where
      healed : Machine
      healed = settled m h

      few_files : length m.files ≤ 64
      few_files = omega (arith, limits.files)

      board : length healed.board.devices ≤ 16
      board = subst (λ (b : BoardValue). length b.devices ≤ 16)
          (sym (settled_board m h (find is_open m.list))) few

      staged : length healed.staged ≤ 8
      staged = subst (λ (ps : List StagedPair). length ps ≤ 8)
          (sym (settled_staged m h (find is_open m.list))) limits.staged

      files : length healed.files ≤ 64
      files = subst (λ (xs : List File). length xs ≤ 64)
          (sym (settled_files m h (find is_open m.list))) few_files

      by_found : (o : Option Element) → length (tasks_with f m h o) ≤ 147531
      by_found None = let most : length (staged_tasks f m ++ folder_tasks f m) ≤ 147530 =
          both_few m few limits.staged few_files in omega arith
      by_found (Some e) =
          let most : length (staged_tasks f healed ++ folder_tasks f healed) ≤ 147530 =
          both_few healed board staged files in omega arith

  -- the steps of a boot
  pub boot_short : (m : Machine) (h : End) (j : ℕ) → length m.board.devices ≤ 16 → IsWithinLimits m
      → (boot_at f m h j).report.steps < 2 ^ 20
  boot_short m h j few limits =
      let steps : (boot_at f m h j).report.steps + weight (boot_at f m h j).left
      ≤ 0 + weight (boot_tasks f m h) = steps_weigh f j (boot_start f m h) in
      let most : weight (boot_tasks f m h) ≤ 2 * length (boot_tasks f m h) =
      weight_most (boot_tasks f m h) in
      let work : length (boot_tasks f m h) ≤ 147531 = work_few m h few limits in
      omega arith
