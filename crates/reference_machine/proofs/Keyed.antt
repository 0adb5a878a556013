-- In every machine that is reached the units of each delivery stand in order.
use Rattle.std.proofs.Common.{◌≡◌, ℕ, zero, suc, ◌+◌, ◌≤◌, inl, inr, Bool, true, false, cond, not}
use Rattle.std.proofs.Common.{◌&&◌, ◌==◌, List, [], ◌∷◌, ◌++◌, length, filter, flat_map, find}
use Rattle.std.proofs.Common.{drop, refl, arith, sym, ap, ◌∙◌, subst, append_assoc, Option, Some}
use Rattle.std.proofs.Common.{None}
use Rattle.std.specs.List.{AllByRecursion}
use Rattle.std.proofs.lemmas.Bool.Decides.{nat_tests}
use Rattle.reference_machine.specs.declared.snapshot.StagedPair.{StagedPair}
use Rattle.reference_machine.specs.declared.unit.End.{End}
use Rattle.reference_machine.specs.declared.unit.UnitKey.{UnitKey}
use Rattle.reference_machine.specs.Boots.{BootTask, BootState, Course, after, after_unit}
use Rattle.reference_machine.specs.Boots.{element_of}
use Rattle.reference_machine.specs.Boots.{after_steps, boot_start, boot_at, boot_tasks, tasks_with}
use Rattle.reference_machine.specs.Boots.{staged_tasks, folder_tasks, file_tasks, file_delivery}
use Rattle.reference_machine.specs.Boots.{files_in_order, pair_tasks, memory_delivery}
use Rattle.reference_machine.specs.Boots.{staged_in_order, prune_tasks, course_of, settled}
use Rattle.reference_machine.specs.Boots.{settled_with, unit_tasks}
use Rattle.reference_machine.specs.Boots.BootTask.{Commits, Removes}
use Rattle.reference_machine.specs.Boots.BootBatch.{Settles, Unstages, Does, Prunes, Clears}
use Rattle.reference_machine.specs.Boots.Course.{Claim, Close}
use Rattle.reference_machine.specs.Deliveries.{BootUnit, units}
use Rattle.reference_machine.specs.Formats.{Formats}
use Rattle.reference_machine.specs.Laws.{AreApart}
use Rattle.reference_machine.specs.Stops.{IsHeldEnd}
use Rattle.bench_model.specs.Files.{File}
use Rattle.reference_machine.specs.Machine.{Machine}
use Rattle.reference_machine.specs.Spent.{Element, Standing, is_of, is_open, spent}
use Rattle.reference_machine.specs.Spent.Standing.{Open, Closed}
use Rattle.reference_machine.proofs.Apart.{all_kept, all_imply, all_more, kept_pass, no_longer}
use Rattle.reference_machine.proofs.Apart.{settled_apart, boot_apart, apart_keeps}
use Rattle.reference_machine.proofs.Going.{Sound, sound_of, boot_going}
use Rattle.reference_machine.proofs.Keeping.{Keeps}
use Rattle.reference_machine.proofs.Keys.{count, keys_of, Gapless, keys_append, keys_closed}
use Rattle.reference_machine.proofs.Keys.{gapless_more, Ahead, Numbered, units_numbered}
use Rattle.reference_machine.proofs.Keys.{rest_numbered, count_other, spent_all}
use Rattle.reference_machine.proofs.Lists.{Rests, NoneOpen, find_none, find_last, settled_list}
use Rattle.reference_machine.proofs.Ordered.{all_ordered, distinct_ordered, turned, files_ahead}
use Rattle.reference_machine.proofs.Ordered.{staged_ahead}

-- the keys of a list, the staged deliveries and the last serial that was given to one
pub record AreKeyed (keys : List UnitKey) (staged : List StagedPair) (last : ℕ) : Type 0 where
  pub gapless : Gapless [] keys
  pub waiting : AllByRecursion (λ (p : StagedPair). count 0 p.serial keys ≡ 0) staged
  pub below : AllByRecursion
      (λ (k : UnitKey). (k.ticket.route == 0) ≡ true → k.ticket.serial ≤ last) keys

abbrev pub Keyed : Machine → Type 0
Keyed m = AreKeyed (keys_of m.list) m.staged m.last_staged

-- the units by memory that are left are of deliveries that wait no longer
abbrev pub Waits : ℕ → List StagedPair → List BootTask → Type 0
Waits last staged [] = Unit {0}
Waits last staged (Commits (Settles kind end) ∷ rest) = Waits last staged rest
Waits last staged (Commits (Unstages p) ∷ rest) =
    Waits last (filter (λ q. not (q.serial == p.serial)) staged) rest
Waits last staged (Commits (Does u) ∷ rest) =
    ((u.key.ticket.route == 0) ≡ true
    → (u.key.ticket.serial ≤ last)
    × AllByRecursion (λ (q : StagedPair). (q.serial == u.key.ticket.serial) ≡ false) staged)
    × Waits last staged rest
Waits last staged (Commits Prunes ∷ rest) = Waits last staged rest
Waits last staged (Removes serial ∷ rest) = Waits last staged rest
Waits last staged (Commits Clears ∷ rest) = Waits last staged rest

-- with the tasks that are left
pub record AreRunning (keys : List UnitKey) (staged : List StagedPair) (last : ℕ)
    (left : List BootTask) : Type 0 where
  pub keyed : AreKeyed keys staged last
  pub ahead : Ahead keys left
  pub waits : Waits last staged left

abbrev pub Runs : Machine → List BootTask → Type 0
Runs m left = AreRunning (keys_of m.list) m.staged m.last_staged left

-- the same keys, staged deliveries and last serial
runs_same : (m n : Machine) (left : List BootTask) → keys_of n.list ≡ keys_of m.list
    → n.staged ≡ m.staged → n.last_staged ≡ m.last_staged → Runs m left → Runs n left
runs_same m n left ek es el r =
    subst (λ l. AreRunning (keys_of n.list) n.staged l left) (sym el)
    (subst (λ ss. AreRunning (keys_of n.list) ss m.last_staged left) (sym es)
    (subst (λ ks. AreRunning ks m.staged m.last_staged left) (sym ek) r))

pub settled_keys : (m : Machine) (end : End) (o : Option Element)
    → keys_of (settled_with m end o).list ≡ keys_of m.list
settled_keys m end None = refl
settled_keys m end (Some e) = keys_closed end m.now m.list

pub settled_staged : (m : Machine) (end : End) (o : Option Element)
    → (settled_with m end o).staged ≡ m.staged
settled_staged m end None = refl
settled_staged m end (Some e) = refl

settled_last : (m : Machine) (end : End) (o : Option Element)
    → (settled_with m end o).last_staged ≡ m.last_staged
settled_last m end None = refl
settled_last m end (Some e) = refl

-- a key of a delivery that waits no longer is of none that waits
not_waiting : (k : UnitKey) (s : ℕ)
    → ((k.ticket.route == 0) ≡ true → (s == k.ticket.serial) ≡ false) → is_of 0 s k ≡ false
not_waiting k s h = by_route (k.ticket.route == 0) refl
  where
    by_route : (b : Bool) → (k.ticket.route == 0) ≡ b → (b && k.ticket.serial == s) ≡ false
    by_route true e = turned s k.ticket.serial (h e)
    by_route false e = refl

-- with one more key
key_runs : (keys : List UnitKey) (staged : List StagedPair) (last : ℕ) (u : BootUnit)
    (rest : List BootTask) → AreRunning keys staged last (Commits (Does u) ∷ rest)
    → AreRunning (keys ++ u.key ∷ []) staged last rest
key_runs keys staged last u rest r = record {
  keyed = record {
    gapless = gapless_more [] keys u.key r.keyed.gapless r.ahead.0;
    waiting = still_waiting staged r.keyed.waiting (λ h. (r.waits.0 h).1);
    below = all_more (λ (k : UnitKey). (k.ticket.route == 0) ≡ true → k.ticket.serial ≤ last) keys
        u.key r.keyed.below (λ h. (r.waits.0 h).0);
  };
  ahead = r.ahead.1;
  waits = r.waits.1;
}
  where
    still_waiting : (ps : List StagedPair)
        → AllByRecursion (λ (p : StagedPair). count 0 p.serial keys ≡ 0) ps
        → ((u.key.ticket.route == 0) ≡ true
        → AllByRecursion (λ (q : StagedPair). (q.serial == u.key.ticket.serial) ≡ false) ps)
        → AllByRecursion (λ (p : StagedPair). count 0 p.serial (keys ++ u.key ∷ []) ≡ 0) ps
    still_waiting [] all h = tt
    still_waiting (p ∷ ps) all h = (
      count_other 0 p.serial keys u.key (not_waiting u.key p.serial (λ e. (h e).0)) ∙ all.0,
      still_waiting ps all.1 (λ e. (h e).1),
    )

-- and with the element of a unit
unit_left : (f : Formats) (m : Machine) (u : BootUnit) (rest : List BootTask) (standing : Standing)
    → Runs m (Commits (Does u) ∷ rest)
    → AreRunning (keys_of (m.list ++ element_of f u standing ∷ [])) m.staged m.last_staged rest
unit_left f m u rest standing r =
    subst (λ ks. AreRunning ks m.staged m.last_staged rest)
    (sym (keys_append m.list (element_of f u standing ∷ [])))
    (key_runs (keys_of m.list) m.staged m.last_staged u rest r)

unit_runs : (f : Formats) (b : BootState) (u : BootUnit) (rest : List BootTask) (c : Course)
    → Runs b.machine (Commits (Does u) ∷ rest)
    → Runs (after_unit f b u rest c).machine (after_unit f b u rest c).left
unit_runs f b u rest Claim r =
    let n : AreRunning (keys_of (b.machine.list ++ element_of f u Open ∷ [])) b.machine.staged
    b.machine.last_staged rest = unit_left f b.machine u rest Open r in
    record { keyed = n.keyed; ahead = n.ahead; waits = n.waits }
unit_runs f b u rest (Close end) r =
    unit_left f b.machine u rest (Closed end b.machine.now) r

after_runs : (f : Formats) (b : BootState) (left : List BootTask) → b.left ≡ left
    → Runs b.machine left → Runs (after f b left).machine (after f b left).left
after_runs f b [] e r = subst (Runs b.machine) (sym e) r
after_runs f b (Commits (Settles kind end) ∷ rest) e r =
    let found : Option Element = find is_open b.machine.list in
    runs_same b.machine (settled b.machine end) rest (settled_keys b.machine end found)
    (settled_staged b.machine end found) (settled_last b.machine end found)
    (record { keyed = r.keyed; ahead = r.ahead; waits = r.waits })
after_runs f b (Commits (Unstages p) ∷ rest) e r = record {
  keyed = record {
    gapless = r.keyed.gapless;
    waiting = all_kept (λ (q : StagedPair). count 0 q.serial (keys_of b.machine.list) ≡ 0)
        (λ q. not (q.serial == p.serial)) b.machine.staged r.keyed.waiting;
    below = r.keyed.below;
  };
  ahead = r.ahead;
  waits = r.waits;
}
after_runs f b (Commits (Does u) ∷ rest) e r =
    unit_runs f b u rest (course_of f b.machine u u.kind) r
after_runs f b (Commits Prunes ∷ rest) e r =
    record { keyed = r.keyed; ahead = r.ahead; waits = r.waits }
after_runs f b (Removes serial ∷ rest) e r =
    record { keyed = r.keyed; ahead = r.ahead; waits = r.waits }
after_runs f b (Commits Clears ∷ rest) e r =
    record { keyed = r.keyed; ahead = r.ahead; waits = r.waits }

steps_runs : (f : Formats) (n : ℕ) (b : BootState) → Runs b.machine b.left
    → Runs (after_steps f n b).machine (after_steps f n b).left
steps_runs f zero b r = r
steps_runs f (suc n) b r =
    after_runs f (after_steps f n b) (after_steps f n b).left refl (steps_runs f n b r)

-- the work of a boot with nothing open
each_true : {X : Type 0} (P : X → Type 0) → ((x : X) → P x) → (xs : List X) → AllByRecursion P xs
each_true P h [] = tt
each_true P h (x ∷ xs) = (h x, each_true P h xs)

prune_ahead : (m : Machine) (keys : List UnitKey) (rest : List BootTask) → Ahead keys rest
    → Ahead keys (prune_tasks m ++ rest)
prune_ahead m keys rest a = by_test _
  where
    by_test : (t : Bool) → Ahead keys (cond t (Commits Prunes ∷ []) [] ++ rest)
    by_test true = a
    by_test false = a

folder_ahead : (f : Formats) (m : Machine) (keys : List UnitKey) → NoneOpen m.list → AreApart m
    → ((s : ℕ) → count 1 s keys ≡ count 1 s (keys_of m.list)) → Ahead keys (folder_tasks f m)
folder_ahead f m keys none a same = by_bit m.is_signalled
  where
    files : List BootTask
    files = flat_map (file_tasks f m) (files_in_order m)

    done : Ahead keys (files ++ Commits Clears ∷ [])
    done = files_ahead f m (files_in_order m) keys (Commits Clears ∷ []) (λ ks. tt)
        (distinct_ordered (λ (x y : File). x.serial == y.serial)
        (λ x y. Rattle.reference_machine.specs.Names.is_taken_before x.name y.name)
        (λ x y h. turned x.serial y.serial h) m.files a.files)
        (each_true (λ (x : File). count 1 x.serial keys ≡ spent m.list x.serial)
        (λ x. same x.serial ∙ sym (spent_all m.list x.serial none)) (files_in_order m))

    by_bit : (t : Bool) → Ahead keys (cond t (prune_tasks m ++ files ++ Commits Clears ∷ []) [])
    by_bit true =
        subst (Ahead keys) (sym (append_assoc (prune_tasks m) files (Commits Clears ∷ [])))
        (prune_ahead m keys (files ++ Commits Clears ∷ []) done)
    by_bit false = tt

work_ahead : (f : Formats) (m : Machine) → NoneOpen m.list → AreApart m → Keyed m
    → Ahead (keys_of m.list) (staged_tasks f m ++ folder_tasks f m)
work_ahead f m none a k =
    staged_ahead f m (staged_in_order m) (keys_of m.list) (folder_tasks f m)
    (λ ks same. folder_ahead f m ks none a same)
    (distinct_ordered (λ (x y : StagedPair). x.serial == y.serial)
    (λ x y. Rattle.std.specs.Prelude.nat_lt x.serial y.serial)
    (λ x y h. turned x.serial y.serial h) m.staged a.staged)
    (all_ordered (λ (p : StagedPair). count 0 p.serial (keys_of m.list) ≡ 0)
    (λ x y. Rattle.std.specs.Prelude.nat_lt x.serial y.serial) m.staged k.waiting)

-- and its units by memory wait no longer when they are done
does_wait : (r s n last : ℕ) (us : List BootUnit) (staged : List StagedPair) (rest : List BootTask)
    → Numbered r s n us
    → ((r == 0) ≡ true
    → (s ≤ last) × AllByRecursion (λ (q : StagedPair). (q.serial == s) ≡ false) staged)
    → Waits last staged rest → Waits last staged (unit_tasks us ++ rest)
does_wait r s n last [] staged rest h w later = later
does_wait r s n last (u ∷ us) staged rest h w later =
    let here : (u.key.ticket.route == 0) ≡ true
    → (u.key.ticket.serial ≤ last)
    × AllByRecursion (λ (q : StagedPair). (q.serial == u.key.ticket.serial) ≡ false) staged =
    λ e. subst (λ i. (i ≤ last)
    × AllByRecursion (λ (q : StagedPair). (q.serial == i) ≡ false) staged) (sym h.0.serial)
    (w (ap (λ i. i == 0) (sym h.0.route) ∙ e)) in
    (here, does_wait r s (n + 1) last us staged rest h.1 w later)

staged_wait : (f : Formats) (m : Machine) (last : ℕ) (ps : List StagedPair)
    (staged : List StagedPair) (rest : List BootTask)
    → AllByRecursion (λ (p : StagedPair). p.serial ≤ last) ps
    → ((ss : List StagedPair) → Waits last ss rest)
    → Waits last staged (flat_map (pair_tasks f m) ps ++ rest)
staged_wait f m last [] staged rest all free = free staged
staged_wait f m last (p ∷ ps) staged rest all free =
    let us : List BootUnit = units f (memory_delivery f m p) m.board in
    let in_progress : List StagedPair = filter (λ q. not (q.serial == p.serial)) staged in
    let numbered : Numbered 0 p.serial 0 us =
    units_numbered f (memory_delivery f m p) m.board in
    let gone : AllByRecursion (λ (q : StagedPair). (q.serial == p.serial) ≡ false) in_progress =
    all_imply (λ (q : StagedPair). not (q.serial == p.serial) ≡ true)
    (λ (q : StagedPair). (q.serial == p.serial) ≡ false)
    (λ q h. no_longer (q.serial == p.serial) h) in_progress
    (kept_pass (λ q. not (q.serial == p.serial)) staged) in
    subst (Waits last in_progress)
    (sym (append_assoc (unit_tasks us) (flat_map (pair_tasks f m) ps) rest))
    (does_wait 0 p.serial 0 last us in_progress (flat_map (pair_tasks f m) ps ++ rest) numbered
    (λ e. (all.0, gone)) (staged_wait f m last ps in_progress rest all.1 free))

files_wait : (f : Formats) (m : Machine) (last : ℕ) (xs : List File) (staged : List StagedPair)
    (rest : List BootTask) → Waits last staged rest
    → Waits last staged (flat_map (file_tasks f m) xs ++ rest)
files_wait f m last [] staged rest later = later
files_wait f m last (x ∷ xs) staged rest later =
    let us : List BootUnit = drop (spent m.list x.serial) (units f (file_delivery x) m.board) in
    let numbered : Numbered 1 x.serial (0 + spent m.list x.serial) us =
    rest_numbered 1 x.serial 0 (spent m.list x.serial) (units f (file_delivery x) m.board)
    (units_numbered f (file_delivery x) m.board) in
    let split : (unit_tasks us ++ Removes x.serial ∷ []) ++ flat_map (file_tasks f m) xs ++ rest
    ≡ unit_tasks us ++ (Removes x.serial ∷ (flat_map (file_tasks f m) xs ++ rest)) =
    append_assoc (unit_tasks us ++ Removes x.serial ∷ []) (flat_map (file_tasks f m) xs) rest
    ∙ append_assoc (unit_tasks us) (Removes x.serial ∷ [])
    (flat_map (file_tasks f m) xs ++ rest) in
    let no : (1 == 0) ≡ true
    → (x.serial ≤ last)
    × AllByRecursion (λ (q : StagedPair). (q.serial == x.serial) ≡ false) staged =
    λ e. absurd (cc) in
    subst (Waits last staged) (sym split)
    (does_wait 1 x.serial (0 + spent m.list x.serial) last us staged
    (Removes x.serial ∷ (flat_map (file_tasks f m) xs ++ rest)) numbered no
    (files_wait f m last xs staged rest later))

prune_wait : (m : Machine) (last : ℕ) (staged : List StagedPair) (rest : List BootTask)
    → Waits last staged rest → Waits last staged (prune_tasks m ++ rest)
prune_wait m last staged rest w = by_test _
  where
    by_test : (t : Bool) → Waits last staged (cond t (Commits Prunes ∷ []) [] ++ rest)
    by_test true = w
    by_test false = w

folder_wait : (f : Formats) (m : Machine) (last : ℕ) (staged : List StagedPair)
    → Waits last staged (folder_tasks f m)
folder_wait f m last staged = by_bit m.is_signalled
  where
    files : List BootTask
    files = flat_map (file_tasks f m) (files_in_order m)

    by_bit : (t : Bool)
        → Waits last staged (cond t (prune_tasks m ++ files ++ Commits Clears ∷ []) [])
    by_bit true =
        subst (Waits last staged) (sym (append_assoc (prune_tasks m) files (Commits Clears ∷ [])))
        (prune_wait m last staged (files ++ Commits Clears ∷ [])
        (files_wait f m last (files_in_order m) staged (Commits Clears ∷ []) tt))
    by_bit false = tt

work_waits : (f : Formats) (m : Machine) → AreApart m
    → Waits m.last_staged m.staged (staged_tasks f m ++ folder_tasks f m)
work_waits f m a =
    staged_wait f m m.last_staged (staged_in_order m) m.staged (folder_tasks f m)
    (all_ordered (λ (p : StagedPair). p.serial ≤ m.last_staged)
    (λ x y. Rattle.std.specs.Prelude.nat_lt x.serial y.serial) m.staged a.last_staged)
    (λ ss. folder_wait f m m.last_staged ss)

work_runs : (f : Formats) (m : Machine) → NoneOpen m.list → AreApart m → Keyed m
    → Runs m (staged_tasks f m ++ folder_tasks f m)
work_runs f m none a k = record {
  keyed = k;
  ahead = work_ahead f m none a k;
  waits = work_waits f m a;
}

-- a boot begins so
start_runs : (f : Formats) (m : Machine) (h : End) → IsHeldEnd h → Sound m → AreApart m → Keyed m
    → Runs m (boot_tasks f m h)
start_runs f m h held (inl r) a k =
    let is : boot_tasks f m h ≡ tasks_with f m h None =
    ap (tasks_with f m h) (find_none m.list r.none) in
    subst (Runs m) (sym is) (work_runs f m r.none a k)
start_runs f m h held (inr p) a k =
    let found : find is_open m.list ≡ Some p.last =
    ap (find is_open) p.parts ∙ find_last p.front p.last p.none p.is_last in
    let is : boot_tasks f m h ≡ tasks_with f m h (Some p.last) = ap (tasks_with f m h) found in
    let healed : Machine = settled_with m h (Some p.last) in
    let same : settled m h ≡ healed = ap (settled_with m h) found in
    let rests : Rests healed.board healed.list = settled_list m.board m.list h m.now held p in
    let none : NoneOpen (settled m h).list =
    subst (λ (x : Machine). NoneOpen x.list) (sym same) rests.none in
    let apart : AreApart (settled m h) = settled_apart m h (find is_open m.list) a in
    let o : Option Element = find is_open m.list in
    let keyed : Keyed (settled m h) =
    (runs_same m (settled m h) [] (settled_keys m h o) (settled_staged m h o)
    (settled_last m h o) (record { keyed = k; ahead = tt; waits = tt })).keyed in
    let there : Runs (settled m h) (staged_tasks f (settled m h) ++ folder_tasks f (settled m h)) =
    work_runs f (settled m h) none apart keyed in
    let here : Runs m (staged_tasks f (settled m h) ++ folder_tasks f (settled m h)) =
    runs_same (settled m h) m _ (sym (settled_keys m h o)) (sym (settled_staged m h o))
    (sym (settled_last m h o)) there in
    subst (Runs m) (sym is) (record { keyed = here.keyed; ahead = here.ahead; waits = here.waits })

pub record Orderly (m : Machine) : Type 0 where
  pub sound : Sound m
  pub apart : AreApart m
  pub keyed : Keyed m

pub boot_orderly : (f : Formats) (m : Machine) (h : End) (j : ℕ) → IsHeldEnd h → Orderly m
    → Orderly (boot_at f m h j).machine
boot_orderly f m h j held o = record {
  sound = sound_of (boot_at f m h j).machine (boot_at f m h j).left
      (boot_going f m h j held o.sound);
  apart = boot_apart f m h j o.apart;
  keyed = (steps_runs f j (boot_start f m h) (start_runs f m h held o.sound o.apart o.keyed)).keyed;
}

-- a serial that was never used has no unit
unused : (last : ℕ) (keys : List UnitKey)
    → AllByRecursion (λ (k : UnitKey). (k.ticket.route == 0) ≡ true → k.ticket.serial ≤ last) keys
    → count 0 (last + 1) keys ≡ 0
unused last [] all = refl
unused last (k ∷ ks) all =
    let none : is_of 0 (last + 1) k ≡ false =
    not_waiting k (last + 1) (λ e. above (k.ticket.serial) (all.0 e)) in
    ap (λ b. length
    (cond b (k ∷ filter (is_of 0 (last + 1)) ks) (filter (is_of 0 (last + 1)) ks))) none
    ∙ unused last ks all.1
  where
    above : (s : ℕ) → s ≤ last → (last + 1 == s) ≡ false
    above s h = grind (arith, nat_tests)

pub orderly_keeps : (f : Formats) → Keeps f Orderly
orderly_keeps f = record {
  fails = λ m o. record {
    sound = o.sound;
    apart = (apart_keeps f).fails m o.apart;
    keyed = o.keyed;
  };
  later = λ m moment o. record {
    sound = o.sound;
    apart = (apart_keeps f).later m moment o.apart;
    keyed = o.keyed;
  };
  puts = λ m file bytes e o. record {
    sound = o.sound;
    apart = (apart_keeps f).puts m file bytes e o.apart;
    keyed = o.keyed;
  };
  asks = λ m o. record {
    sound = o.sound;
    apart = (apart_keeps f).asks m o.apart;
    keyed = o.keyed;
  };
  lays = λ m address bytes o. record {
    sound = o.sound;
    apart = (apart_keeps f).lays m address bytes o.apart;
    keyed = o.keyed;
  };
  stages = λ m address e o. record {
    sound = o.sound;
    apart = (apart_keeps f).stages m address e o.apart;
    keyed = record {
      gapless = o.keyed.gapless;
      waiting = all_more (λ (p : StagedPair). count 0 p.serial (keys_of m.list) ≡ 0) m.staged
          (record { serial = m.last_staged + 1; address = address }) o.keyed.waiting
          (unused m.last_staged (keys_of m.list) o.keyed.below);
      below = all_imply
          (λ (k : UnitKey). (k.ticket.route == 0) ≡ true → k.ticket.serial ≤ m.last_staged)
          (λ (k : UnitKey). (k.ticket.route == 0) ≡ true → k.ticket.serial ≤ m.last_staged + 1)
          (λ k h t. up k.ticket.serial m.last_staged (h t)) (keys_of m.list) o.keyed.below;
    };
  };
  cold = λ m o. record {
    sound = o.sound;
    apart = (apart_keeps f).cold m o.apart;
    keyed = o.keyed;
  };
  warm = λ m o. record {
    sound = o.sound;
    apart = (apart_keeps f).warm m o.apart;
    keyed = o.keyed;
  };
  boots = λ m h j held o. boot_orderly f m h j held o;
}
  where
    up : (s last : ℕ) → s ≤ last → s ≤ last + 1
    up s last h = omega arith
