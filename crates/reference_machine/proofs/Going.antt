-- A boot under way: nothing is open and no settlement is left, or the last element is open and is
-- settled next.
use Rattle.std.proofs.Common.{◌≡◌, ℕ, zero, suc, ◌≤◌, ◌⊎◌, inl, inr, Bool, true, false, cond, List}
use Rattle.std.proofs.Common.{[], ◌∷◌, ◌++◌, length, flat_map, find, refl, sym, ap, ◌∙◌, subst}
use Rattle.std.proofs.Common.{Option, Some, None, nat_le, drop, T}
use lib.Dec.{leb→le}
use Rattle.reference_machine.specs.declared.unit.End.{End}
use Rattle.reference_machine.specs.declared.unit.End.TheVariants.{Refused}
use Rattle.reference_machine.specs.declared.unit.Kind.{Kind}
use Rattle.reference_machine.specs.declared.unit.Kind.TheVariants.{Try, Heal, Skip, NoTarget, Bad}
use Rattle.reference_machine.specs.Boots.{BootTask, BootState, Course, after, after_unit}
use Rattle.reference_machine.specs.Boots.{after_steps, boot_start, boot_at, boot_tasks, tasks_with}
use Rattle.reference_machine.specs.Boots.{staged_tasks, folder_tasks, file_tasks, file_delivery}
use Rattle.reference_machine.specs.Boots.{files_in_order, pair_tasks, memory_delivery}
use Rattle.reference_machine.specs.Boots.{staged_in_order, prune_tasks, course_of, course_of_try}
use Rattle.reference_machine.specs.Boots.{element_of, element_with, parts_tried, settled}
use Rattle.reference_machine.specs.Boots.{settled_with, unit_tasks}
use Rattle.reference_machine.specs.Boots.BootTask.{Commits, Removes}
use Rattle.reference_machine.specs.Boots.BootBatch.{Settles, Unstages, Does, Prunes, Clears}
use Rattle.reference_machine.specs.Boots.Course.{Claim, Close}
use Rattle.reference_machine.specs.Deliveries.{BootUnit, units}
use Rattle.reference_machine.specs.Formats.{Formats, Parts}
use Rattle.reference_machine.specs.Stops.{IsHeldEnd}
use Rattle.bench_model.specs.Files.{File}
use Rattle.reference_machine.specs.Machine.{Machine}
use Rattle.reference_machine.specs.Spent.{spent, Element, is_open, is_attempt, is_attempted}
use Rattle.reference_machine.specs.Spent.{floor_of}
use Rattle.reference_machine.specs.Spent.Standing.{Open, Closed}
use Rattle.image_parts.specs.Admission.{is_admitted}
use Rattle.reference_machine.specs.Verdicts.{refusal, refusal_with, check, capacity_of}
use Rattle.reference_machine.specs.Verdicts.{keeps_dependencies}
use Rattle.cu_base.specs.Refusals.{first_refusal}
use Rattle.reference_machine.proofs.Lists.{Rests, Pends, above_more, none_more, find_none}
use Rattle.reference_machine.proofs.Lists.{find_last, settled_list}

-- no settlement is left
abbrev pub NoSettles : List BootTask → Type 0
NoSettles [] = Unit {0}
NoSettles (Commits (Settles kind end) ∷ rest) = ⊥
NoSettles (Commits (Unstages pair) ∷ rest) = NoSettles rest
NoSettles (Commits (Does unit) ∷ rest) = NoSettles rest
NoSettles (Commits Prunes ∷ rest) = NoSettles rest
NoSettles (Removes serial ∷ rest) = NoSettles rest
NoSettles (Commits Clears ∷ rest) = NoSettles rest

-- a settlement comes next, and no other
abbrev pub IsSettling : List BootTask → Type 0
IsSettling [] = ⊥
IsSettling (Commits (Settles kind end) ∷ rest) = IsHeldEnd end × NoSettles rest
IsSettling (Commits (Unstages pair) ∷ rest) = ⊥
IsSettling (Commits (Does unit) ∷ rest) = ⊥
IsSettling (Commits Prunes ∷ rest) = ⊥
IsSettling (Removes serial ∷ rest) = ⊥
IsSettling (Commits Clears ∷ rest) = ⊥

abbrev pub Going : Machine → List BootTask → Type 0
Going m left = (Rests m.board m.list × NoSettles left) ⊎ (Pends m.board m.list × IsSettling left)

-- the machine between events
abbrev pub Sound : Machine → Type 0
Sound m = Rests m.board m.list ⊎ Pends m.board m.list

pub sound_of : (m : Machine) (left : List BootTask) → Going m left → Sound m
sound_of m left (inl g) = inl g.0
sound_of m left (inr g) = inr g.0

le_of : (a b : ℕ) → nat_le a b ≡ true → a ≤ b
le_of a b h = leb→le a b (subst T (sym h) tt)

-- a try that is claimed passed the check of its version, the fourth
fourth_passed : (a b c d e : Bool) (i j k l m : ℕ)
    → course_of_try
    (first_refusal (check a i ∷ check b j ∷ check c k ∷ check d l ∷ check e m ∷ [])) ≡ Claim
    → d ≡ true
fourth_passed true true true true e i j k l m h = refl
fourth_passed true true true false e i j k l m h = cc
fourth_passed true true false d e i j k l m h = cc
fourth_passed true false c d e i j k l m h = cc
fourth_passed false b c d e i j k l m h = cc

-- a claim is made above the floor in force
claim_above : (f : Formats) (m : Machine) (u : BootUnit) (k : Kind) → course_of f m u k ≡ Claim
    → floor_of m.board m.list u.key.device ≤ (element_with u Open (parts_tried f u k)).version
claim_above f m u Try h = by_parts (f.parts u.image u.head.support) h
  where
    by_parts : (p : Option Parts) → course_of_try (refusal_with f m u p) ≡ Claim
        → floor_of m.board m.list u.key.device ≤ (element_with u Open p).version
    by_parts None k = cc
    by_parts (Some p) k =
        le_of _ _ (fourth_passed true (is_admitted m.board.digests u.image)
        (nat_le (length p.payload) (capacity_of m.board u.key.device))
        (nat_le (floor_of m.board m.list u.key.device) p.version)
        (keeps_dependencies f m u.key.device p) 4 5 2 3 8 k)
claim_above f m u Heal h = cc
claim_above f m u Skip h = cc
claim_above f m u NoTarget h = cc
claim_above f m u Bad h = cc

-- a unit that is closed at once is refused or tries nothing, so it is no attempt
close_quiet : (f : Formats) (m : Machine) (u : BootUnit) (k : Kind) (end : Option End)
    → course_of f m u k ≡ Close end → (now : _) → is_attempted (Closed end now) ≡ false
close_quiet f m u Try end h now = by_refusal (refusal f m u) h
  where
    by_refusal : (r : Option ℕ) → course_of_try r ≡ Close end
        → is_attempted (Closed end now) ≡ false
    by_refusal None k = cc
    by_refusal (Some status) k = let e : Some (Refused status) ≡ end =
        cc in ap (λ x. is_attempted (Closed x now)) (sym e)
close_quiet f m u Heal end h now = let e : None ≡ end =
    cc in ap (λ x. is_attempted (Closed x now)) (sym e)
close_quiet f m u Skip end h now = let e : None ≡ end =
    cc in ap (λ x. is_attempted (Closed x now)) (sym e)
close_quiet f m u NoTarget end h now = let e : None ≡ end =
    cc in ap (λ x. is_attempted (Closed x now)) (sym e)
close_quiet f m u Bad end h now = let e : None ≡ end =
    cc in ap (λ x. is_attempted (Closed x now)) (sym e)

unit_going : (f : Formats) (b : BootState) (u : BootUnit) (rest : List BootTask) (c : Course)
    → course_of f b.machine u u.kind ≡ c → Rests b.machine.board b.machine.list → NoSettles rest
    → Going (after_unit f b u rest c).machine (after_unit f b u rest c).left
unit_going f b u rest Claim h r n =
    inr (
      record {
        front = b.machine.list;
        last = element_of f u Open;
        parts = refl;
        none = r.none;
        is_last = refl;
        above = above_more b.machine.board [] b.machine.list (element_of f u Open) r.above
            (λ _. claim_above f b.machine u u.kind h);
      },
      (tt, n),
    )
unit_going f b u rest (Close end) h r n =
    let e : Element = element_of f u (Closed end b.machine.now) in
    let quiet : is_attempt e ≡ false = close_quiet f b.machine u u.kind end h b.machine.now in
    inl (
      record {
        none = none_more b.machine.list e r.none refl;
        above = above_more b.machine.board [] b.machine.list e r.above
            (λ k. absurd (let x : true ≡ false = sym k ∙ quiet in cc));
      },
      n,
    )

settle_going : (m : Machine) (end : End) (rest : List BootTask) → IsHeldEnd end
    → Pends m.board m.list → NoSettles rest → Going (settled m end) rest
settle_going m end rest held p n =
    let found : find is_open m.list ≡ Some p.last =
    ap (find is_open) p.parts ∙ find_last p.front p.last p.none p.is_last in
    let is : settled m end ≡ settled_with m end (Some p.last) = ap (settled_with m end) found in
    subst (λ x. Going x rest) (sym is) (inl (settled_list m.board m.list end m.now held p, n))

-- each step keeps it
pub after_going : (f : Formats) (b : BootState) (left : List BootTask) → Going b.machine left
    → b.left ≡ left → Going (after f b left).machine (after f b left).left
after_going f b [] g e = subst (Going b.machine) (sym e) g
after_going f b (Commits (Settles kind end) ∷ rest) (inl g) e = absurd g.1
after_going f b (Commits (Settles kind end) ∷ rest) (inr g) e =
    settle_going b.machine end rest g.1.0 g.0 g.1.1
after_going f b (Commits (Unstages pair) ∷ rest) (inl g) e = inl g
after_going f b (Commits (Unstages pair) ∷ rest) (inr g) e = absurd g.1
after_going f b (Commits (Does u) ∷ rest) (inl g) e =
    unit_going f b u rest (course_of f b.machine u u.kind) refl g.0 g.1
after_going f b (Commits (Does u) ∷ rest) (inr g) e = absurd g.1
after_going f b (Commits Prunes ∷ rest) (inl g) e = inl g
after_going f b (Commits Prunes ∷ rest) (inr g) e = absurd g.1
after_going f b (Removes serial ∷ rest) (inl g) e = inl g
after_going f b (Removes serial ∷ rest) (inr g) e = absurd g.1
after_going f b (Commits Clears ∷ rest) (inl g) e = inl g
after_going f b (Commits Clears ∷ rest) (inr g) e = absurd g.1

pub steps_going : (f : Formats) (n : ℕ) (b : BootState) → Going b.machine b.left
    → Going (after_steps f n b).machine (after_steps f n b).left
steps_going f zero b g = g
steps_going f (suc n) b g =
    after_going f (after_steps f n b) (after_steps f n b).left (steps_going f n b g) refl

-- the work of a boot settles nothing but what was open before
settles_append : (xs ys : List BootTask) → NoSettles xs → NoSettles ys → NoSettles (xs ++ ys)
settles_append [] ys a b = b
settles_append (Commits (Settles kind end) ∷ xs) ys a b = absurd a
settles_append (Commits (Unstages pair) ∷ xs) ys a b = settles_append xs ys a b
settles_append (Commits (Does unit) ∷ xs) ys a b = settles_append xs ys a b
settles_append (Commits Prunes ∷ xs) ys a b = settles_append xs ys a b
settles_append (Removes serial ∷ xs) ys a b = settles_append xs ys a b
settles_append (Commits Clears ∷ xs) ys a b = settles_append xs ys a b

settles_does : (us : List BootUnit) → NoSettles (unit_tasks us)
settles_does [] = tt
settles_does (u ∷ us) = settles_does us

settles_each : {X : Type 0} (g : X → List BootTask) → ((x : X) → NoSettles (g x)) → (xs : List X)
    → NoSettles (flat_map g xs)
settles_each g h [] = tt
settles_each g h (x ∷ xs) = settles_append (g x) (flat_map g xs) (h x) (settles_each g h xs)

settles_prune : (m : Machine) → NoSettles (prune_tasks m)
settles_prune m = by_test _
  where
    by_test : (t : Bool) → NoSettles (cond t (Commits Prunes ∷ []) [])
    by_test true = tt
    by_test false = tt

settles_folder : (f : Formats) (m : Machine) → NoSettles (folder_tasks f m)
settles_folder f m = by_bit m.is_signalled
  where
    files : List BootTask
    files = flat_map (file_tasks f m) (files_in_order m)

    of_file : (x : File) → NoSettles (file_tasks f m x)
    of_file x = settles_append
        (unit_tasks (drop (spent m.list x.serial) (units f (file_delivery x) m.board)))
        (Removes x.serial ∷ [])
        (settles_does (drop (spent m.list x.serial) (units f (file_delivery x) m.board))) tt

    none : NoSettles files
    none = settles_each (file_tasks f m) of_file (files_in_order m)

    by_bit : (t : Bool) → NoSettles (cond t (prune_tasks m ++ files ++ Commits Clears ∷ []) [])
    by_bit true =
        settles_append (prune_tasks m ++ files) (Commits Clears ∷ [])
        (settles_append (prune_tasks m) files (settles_prune m) none) tt
    by_bit false = tt

settles_work : (f : Formats) (m : Machine) → NoSettles (staged_tasks f m ++ folder_tasks f m)
settles_work f m =
    settles_append (staged_tasks f m) (folder_tasks f m)
    (settles_each (pair_tasks f m) (λ p. settles_does (units f (memory_delivery f m p) m.board))
    (staged_in_order m)) (settles_folder f m)

-- a boot begins so
pub start_going : (f : Formats) (m : Machine) (h : End) → IsHeldEnd h → Sound m
    → Going (boot_start f m h).machine (boot_start f m h).left
start_going f m h held (inl r) =
    let is : boot_tasks f m h ≡ tasks_with f m h None =
    ap (tasks_with f m h) (find_none m.list r.none) in
    inl (r, subst NoSettles (sym is) (settles_work f m))
start_going f m h held (inr p) =
    let found : find is_open m.list ≡ Some p.last =
    ap (find is_open) p.parts ∙ find_last p.front p.last p.none p.is_last in
    let is : boot_tasks f m h ≡ tasks_with f m h (Some p.last) = ap (tasks_with f m h) found in
    inr (p, subst IsSettling (sym is) (held, settles_work f (settled m h)))

-- the machine after any steps of a boot
pub boot_going : (f : Formats) (m : Machine) (h : End) (j : ℕ) → IsHeldEnd h → Sound m
    → Going (boot_at f m h j).machine (boot_at f m h j).left
boot_going f m h j held s = steps_going f j (boot_start f m h) (start_going f m h held s)
