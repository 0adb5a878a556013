-- In every machine that is reached files, staged deliveries and the serials in kept are within
-- their limits.
use Rattle.std.proofs.Common.{◌≡◌, ℕ, zero, suc, ◌+◌, ◌≤◌, ◌^◌, ◌-◌, inl, inr, Bool, true, false}
use Rattle.std.proofs.Common.{cond, not, ◌&&◌, ◌||◌, ◌==◌, List, [], ◌∷◌, ◌++◌, length, map, filter}
use Rattle.std.proofs.Common.{find, nat_lt, nat_le, refl, arith, sym, ap, ◌∙◌, subst, Option, Some}
use Rattle.std.proofs.Common.{None}
use Rattle.std.specs.List.{AllByRecursion, list_any}
use Rattle.std.proofs.lemmas.Bool.Decides.{nat_tests}
use Rattle.std.proofs.lemmas.List.{length-append}
use Rattle.bench_model.specs.declared.outside_limits.TheConstants.{MAX_FOLDER_BYTES, MAX_FILES}
use Rattle.reference_machine.specs.declared.limits.TheConstants.{MAX_STAGED}
use Rattle.reference_machine.specs.declared.snapshot.StagedPair.{StagedPair}
use Rattle.reference_machine.specs.declared.unit.End.{End}
use Rattle.reference_machine.specs.Boots.{BootTask, BootState, Course, after, after_unit}
use Rattle.reference_machine.specs.Boots.{after_steps, boot_start, boot_at, boot_tasks, tasks_with}
use Rattle.reference_machine.specs.Boots.{is_file, progress_with, course_of, element_of, settled}
use Rattle.reference_machine.specs.Boots.{settled_with, closed_with, staged_tasks, folder_tasks}
use Rattle.reference_machine.specs.Boots.BootTask.{Commits, Removes}
use Rattle.reference_machine.specs.Boots.BootBatch.{Settles, Unstages, Does, Prunes, Clears}
use Rattle.reference_machine.specs.Boots.Course.{Claim, Close}
use Rattle.reference_machine.specs.Deliveries.{BootUnit}
use Rattle.reference_machine.specs.Events.{staging_refusal, coalesced_refusal}
use Rattle.reference_machine.specs.Formats.{Formats}
use Rattle.reference_machine.specs.Laws.{IsWithinLimits, IsGiven, SerialsAreGiven}
use Rattle.reference_machine.specs.Laws.{progress_with_open}
use Rattle.reference_machine.specs.Stops.{IsHeldEnd}
use Rattle.bench_model.specs.Files.{File}
use Rattle.reference_machine.specs.Machine.{Machine}
use Rattle.bench_model.specs.Files.{bytes_in, is_same_name, others_than}
use Rattle.reference_machine.specs.Spent.{Element, is_of, is_open}
use Rattle.reference_machine.specs.Spent.Standing.{Open, Closed}
use Rattle.reference_machine.specs.TraceValues.{AnswerValue}
use Rattle.reference_machine.proofs.Apart.{all_kept, all_imply}
use Rattle.reference_machine.proofs.Filing.{has, serials_of}
use Rattle.reference_machine.proofs.FilingWork.{has_each}
use Rattle.reference_machine.proofs.Going.{Going, Sound, start_going, steps_going}
use Rattle.reference_machine.proofs.Keeping.{Keeps}
use Rattle.reference_machine.proofs.KeptLemmas.{KeptIs, Ready, kept_in, kept_unit, kept_pruned}
use Rattle.reference_machine.proofs.KeptLemmas.{all_without, filter_most, filter_fewer, ready_work}
use Rattle.reference_machine.proofs.Keyed.{Keyed}
use Rattle.reference_machine.proofs.Keys.{count, keys_of}
use Rattle.reference_machine.proofs.Lists.{Rests, Pends, NoneOpen, find_none, find_last, none_more}
use Rattle.reference_machine.proofs.Lists.{settled_list}
use Rattle.reference_machine.proofs.SpentFiles.{Filed, Files, steps_filed, start_filed, files_keeps}
use Rattle.reference_machine.proofs.SpentFiles.{boot_files, settled_files}

-- what is kept of a machine
abbrev pub kept_now : Machine → List ℕ
kept_now m = progress_with_open m.in_progress (find is_open m.list)

kept_resting : (m : Machine) → NoneOpen m.list → kept_now m ≡ m.in_progress
kept_resting m none = ap (progress_with_open m.in_progress) (find_none m.list none)

-- a boot under way
pub record Bounded (serials : List ℕ) (m : Machine) (left : List BootTask) : Type 0 where
  pub there : AllByRecursion (λ (x : File). has serials x.serial ≡ true) m.files
  pub few : length serials ≤ MAX_FILES
  pub files : length m.files ≤ MAX_FILES
  pub staged : length m.staged ≤ MAX_STAGED
  pub in_progress : KeptIs serials m.last_file (kept_now m) left

unit_bounded : (f : Formats) (serials : List ℕ) (b : BootState) (u : BootUnit)
    (rest : List BootTask) (c : Course) → NoneOpen b.machine.list
    → Filed serials b.machine (Commits (Does u) ∷ rest)
    → Bounded serials b.machine (Commits (Does u) ∷ rest)
    → Bounded serials (after_unit f b u rest c).machine (after_unit f b u rest c).left
unit_bounded f serials b u rest Claim none r k =
    let m : Machine = b.machine in
    let e : Element = element_of f u Open in
    let before : KeptIs serials m.last_file m.in_progress (Commits (Does u) ∷ rest) =
    subst (λ ns. KeptIs serials m.last_file ns (Commits (Does u) ∷ rest))
    (kept_resting m none) k.in_progress in
    let more : KeptIs serials m.last_file (progress_with m.in_progress u.key) rest =
    kept_unit serials m.last_staged m.last_file m.in_progress u rest k.few r.below r.known.0 before
    in
    let is : progress_with_open m.in_progress (find is_open (m.list ++ e ∷ []))
    ≡ progress_with m.in_progress u.key =
    ap (progress_with_open m.in_progress) (find_last m.list e none refl) in
    let now : KeptIs serials m.last_file
    (progress_with_open m.in_progress (find is_open (m.list ++ e ∷ []))) rest =
    subst (λ ns. KeptIs serials m.last_file ns rest) (sym is) more in
    record {
      there = k.there;
      few = k.few;
      files = k.files;
      staged = k.staged;
      in_progress = record { once = now.once; few = now.few; below = now.below; ready = now.ready };
    }
unit_bounded f serials b u rest (Close end) none r k =
    let m : Machine = b.machine in
    let e : Element = element_of f u (Closed end m.now) in
    let before : KeptIs serials m.last_file m.in_progress (Commits (Does u) ∷ rest) =
    subst (λ ns. KeptIs serials m.last_file ns (Commits (Does u) ∷ rest))
    (kept_resting m none) k.in_progress in
    let more : KeptIs serials m.last_file (progress_with m.in_progress u.key) rest =
    kept_unit serials m.last_staged m.last_file m.in_progress u rest k.few r.below r.known.0 before
    in
    let is : progress_with_open (progress_with m.in_progress u.key)
    (find is_open (m.list ++ e ∷ [])) ≡ progress_with m.in_progress u.key =
    ap (progress_with_open (progress_with m.in_progress u.key))
    (find_none (m.list ++ e ∷ []) (none_more m.list e none refl)) in
    record {
      there = k.there;
      few = k.few;
      files = k.files;
      staged = k.staged;
      in_progress = subst (λ ns. KeptIs serials m.last_file ns rest) (sym is) more;
    }

-- the settled element was counted already
settled_kept : (m : Machine) (end : End) → IsHeldEnd end → (p : Pends m.board m.list)
    → kept_now (settled_with m end (Some p.last)) ≡ kept_now m
settled_kept m end held p =
    let found : find is_open m.list ≡ Some p.last =
    ap (find is_open) p.parts ∙ find_last p.front p.last p.none p.is_last in
    let rests : Rests m.board (map (closed_with end m.now) m.list) =
    settled_list m.board m.list end m.now held p in
    ap (progress_with_open (progress_with m.in_progress p.last.key))
    (find_none (map (closed_with end m.now) m.list) rests.none)
    ∙ sym (ap (progress_with_open m.in_progress) found)

settle_bounded : (serials : List ℕ) (m : Machine) (end : End) (rest : List BootTask) → IsHeldEnd end
    → Pends m.board m.list → Bounded serials m rest → Bounded serials (settled m end) rest
settle_bounded serials m end rest held p k =
    let found : find is_open m.list ≡ Some p.last =
    ap (find is_open) p.parts ∙ find_last p.front p.last p.none p.is_last in
    let is : settled m end ≡ settled_with m end (Some p.last) = ap (settled_with m end) found in
    subst (λ x. Bounded serials x rest) (sym is)
    (record {
      there = k.there;
      few = k.few;
      files = k.files;
      staged = k.staged;
      in_progress =
          subst (λ ns. KeptIs serials m.last_file ns rest)
          (sym (settled_kept m end held p)) k.in_progress;
    })

kept_left : (serials : List ℕ) (last : ℕ) (in_progress : List ℕ) (left rest : List BootTask)
    → KeptIs serials last in_progress left → Ready serials in_progress rest
    → KeptIs serials last in_progress rest
kept_left serials last in_progress left rest k r = record {
  once = k.once;
  few = k.few;
  below = k.below;
  ready = r;
}

at_most : (a b c : ℕ) → a ≤ b → b ≤ c → a ≤ c
at_most a b c h k = omega arith

after_bounded : (f : Formats) (serials : List ℕ) (b : BootState) (left : List BootTask)
    → b.left ≡ left → Going b.machine left → Filed serials b.machine left
    → Bounded serials b.machine left
    → Bounded serials (after f b left).machine (after f b left).left
after_bounded f serials b [] e g r k = subst (Bounded serials b.machine) (sym e) k
after_bounded f serials b (Commits (Settles kind end) ∷ rest) e (inl g) r k = absurd g.1
after_bounded f serials b (Commits (Settles kind end) ∷ rest) e (inr g) r k =
    settle_bounded serials b.machine end rest g.1.0 g.0
    (record {
      there = k.there;
      few = k.few;
      files = k.files;
      staged = k.staged;
      in_progress =
          kept_left serials b.machine.last_file (kept_now b.machine)
          (Commits (Settles kind end) ∷ rest) rest k.in_progress k.in_progress.ready;
    })
after_bounded f serials b (Commits (Unstages p) ∷ rest) e g r k = record {
  there = k.there;
  few = k.few;
  files = k.files;
  staged = at_most (length (filter (λ q. not (q.serial == p.serial)) b.machine.staged))
      (length b.machine.staged) MAX_STAGED
      (filter_most (λ (q : StagedPair). not (q.serial == p.serial)) b.machine.staged) k.staged;
  in_progress =
      kept_left serials b.machine.last_file (kept_now b.machine)
      (Commits (Unstages p) ∷ rest) rest k.in_progress k.in_progress.ready;
}
after_bounded f serials b (Commits (Does u) ∷ rest) e (inl g) r k =
    unit_bounded f serials b u rest (course_of f b.machine u u.kind) g.0.none r k
after_bounded f serials b (Commits (Does u) ∷ rest) e (inr g) r k = absurd g.1
after_bounded f serials b (Commits Prunes ∷ rest) e (inl g) r k =
    let m : Machine = b.machine in
    let before : KeptIs serials m.last_file m.in_progress (Commits Prunes ∷ rest) =
    subst (λ ns. KeptIs serials m.last_file ns (Commits Prunes ∷ rest))
    (kept_resting m g.0.none) k.in_progress in
    let pruned : KeptIs serials m.last_file (filter (is_file m.files) m.in_progress) rest =
    kept_pruned serials m.last_file m.files m.in_progress
    (Commits Prunes ∷ rest) rest k.few k.there before in
    let is : progress_with_open (filter (is_file m.files) m.in_progress) (find is_open m.list)
    ≡ filter (is_file m.files) m.in_progress =
    ap (progress_with_open (filter (is_file m.files) m.in_progress))
    (find_none m.list g.0.none) in
    record {
      there = k.there;
      few = k.few;
      files = k.files;
      staged = k.staged;
      in_progress = subst (λ ns. KeptIs serials m.last_file ns rest) (sym is) pruned;
    }
after_bounded f serials b (Commits Prunes ∷ rest) e (inr g) r k = absurd g.1
after_bounded f serials b (Removes serial ∷ rest) e g r k = record {
  there = all_kept (λ (x : File). has serials x.serial ≡ true)
      (λ x. not (x.serial == serial)) b.machine.files k.there;
  few = k.few;
  files = at_most (length (filter (λ x. not (x.serial == serial)) b.machine.files))
      (length b.machine.files) MAX_FILES
      (filter_most (λ (x : File). not (x.serial == serial)) b.machine.files) k.files;
  staged = k.staged;
  in_progress =
      kept_left serials b.machine.last_file (kept_now b.machine)
      (Removes serial ∷ rest) rest k.in_progress k.in_progress.ready;
}
after_bounded f serials b (Commits Clears ∷ rest) e (inl g) r k =
    let m : Machine = b.machine in
    let is : progress_with_open [] (find is_open m.list) ≡ [] =
    ap (progress_with_open []) (find_none m.list g.0.none) in
    let cleared : KeptIs serials m.last_file [] rest =
    kept_in serials m.last_file [] rest k.few tt tt tt in
    record {
      there = k.there;
      few = k.few;
      files = k.files;
      staged = k.staged;
      in_progress = subst (λ ns. KeptIs serials m.last_file ns rest) (sym is) cleared;
    }
after_bounded f serials b (Commits Clears ∷ rest) e (inr g) r k = absurd g.1

steps_bounded : (f : Formats) (serials : List ℕ) (n : ℕ) (b : BootState) → Going b.machine b.left
    → Filed serials b.machine b.left → Bounded serials b.machine b.left
    → Bounded serials (after_steps f n b).machine (after_steps f n b).left
steps_bounded f serials zero b g r k = k
steps_bounded f serials (suc n) b g r k =
    after_bounded f serials (after_steps f n b) (after_steps f n b).left refl (steps_going f n b g)
    (steps_filed f serials n b g r) (steps_bounded f serials n b g r k)

-- between events
pub record Limited (m : Machine) : Type 0 where
  pub filed : Files m
  pub files : length m.files ≤ MAX_FILES
  pub staged : length m.staged ≤ MAX_STAGED
  pub in_progress : KeptIs [] m.last_file (kept_now m) []

serials_length : (xs : List File) → length (serials_of xs) ≡ length xs
serials_length [] = refl
serials_length (x ∷ xs) = ap suc (serials_length xs)

-- a boot begins so
ready_start : (f : Formats) (m : Machine) (h : End) → IsHeldEnd h → Sound m
    → Ready (serials_of m.files) (kept_now m) (boot_tasks f m h)
ready_start f m h held (inl r) =
    let is : boot_tasks f m h ≡ tasks_with f m h None =
    ap (tasks_with f m h) (find_none m.list r.none) in
    let here : Ready (serials_of m.files) m.in_progress (tasks_with f m h None) =
    ready_work f m (serials_of m.files) (has_each m.files) in
    subst (Ready (serials_of m.files) (kept_now m)) (sym is)
    (subst (λ ns. Ready (serials_of m.files) ns (tasks_with f m h None))
    (sym (kept_resting m r.none)) here)
ready_start f m h held (inr p) =
    let found : find is_open m.list ≡ Some p.last =
    ap (find is_open) p.parts ∙ find_last p.front p.last p.none p.is_last in
    let is : boot_tasks f m h ≡ tasks_with f m h (Some p.last) = ap (tasks_with f m h) found in
    let healed : Machine = settled m h in
    let there : AllByRecursion
    (λ (x : File). has (serials_of m.files) x.serial ≡ true) healed.files =
    subst (AllByRecursion (λ (x : File). has (serials_of m.files) x.serial ≡ true))
    (sym (settled_files m h (find is_open m.list))) (has_each m.files) in
    let in_progress : healed.in_progress ≡ kept_now m =
    ap (λ o. (settled_with m h o).in_progress) found
    ∙ sym (ap (progress_with_open m.in_progress) found) in
    let here : Ready (serials_of m.files) healed.in_progress
    (staged_tasks f healed ++ folder_tasks f healed) =
    ready_work f healed (serials_of m.files) there in
    let now : Ready (serials_of m.files) (kept_now m)
    (staged_tasks f healed ++ folder_tasks f healed) =
    subst (λ ns. Ready (serials_of m.files) ns
    (staged_tasks f healed ++ folder_tasks f healed)) in_progress here in
    subst (Ready (serials_of m.files) (kept_now m)) (sym is) now

start_bounded : (f : Formats) (m : Machine) (h : End) → IsHeldEnd h → Limited m
    → Bounded (serials_of m.files) m (boot_tasks f m h)
start_bounded f m h held o = record {
  there = has_each m.files;
  few = (let same : length (serials_of m.files)
      ≡ length m.files = serials_length m.files in let files : length m.files ≤ MAX_FILES =
      o.files in omega arith);
  files = o.files;
  staged = o.staged;
  in_progress = record {
    once = o.in_progress.once;
    few = o.in_progress.few;
    below = o.in_progress.below;
    ready = ready_start f m h held o.filed.sound;
  };
}

pub boot_limited : (f : Formats) (m : Machine) (h : End) (j : ℕ) → IsHeldEnd h → Limited m
    → Limited (boot_at f m h j).machine
boot_limited f m h j held o =
    let there : Bounded (serials_of m.files) (boot_at f m h j).machine (boot_at f m h j).left =
    steps_bounded f (serials_of m.files) j (boot_start f m h) (start_going f m h held o.filed.sound)
    (start_filed f m h o.filed) (start_bounded f m h held o) in
    record {
      filed = boot_files f m h j held o.filed;
      files = there.files;
      staged = there.staged;
      in_progress = record {
        once = there.in_progress.once;
        few = there.in_progress.few;
        below = there.in_progress.below;
        ready = tt;
      };
    }

-- a folder that is not full has room, or the file replaces one
below_limit : (limit n : ℕ) → nat_le limit n ≡ false → n + 1 ≤ limit
below_limit limit n h = grind (arith, nat_tests)

has_room : (a b c : Bool) → (a && not b || c) ≡ false → b ≡ false → a ≡ false
has_room true b c h k = let e : (not b || c) ≡ true =
    ap (λ x. not x || c) k in absurd (let no : true ≡ false = sym e ∙ h in cc)
has_room false b c h k = refl

put_few : (files : List File) (name : List ℕ) (file : File) (last_full : Bool)
    → (nat_le MAX_FILES (length files) && not (list_any (λ x. is_same_name x.name name) files)
    || last_full) ≡ false → length files ≤ MAX_FILES
    → length (filter (λ x. not (is_same_name x.name name)) files ++ file ∷ []) ≤ MAX_FILES
put_few files name file last_full room few =
    by_test (list_any (λ x. is_same_name x.name name) files) refl
  where
    in_progress : List File
    in_progress = filter (λ x. not (is_same_name x.name name)) files

    more : length (in_progress ++ file ∷ []) ≡ length in_progress + 1
    more = length-append in_progress (file ∷ [])

    by_test : (b : Bool) → list_any (λ x. is_same_name x.name name) files ≡ b
        → length (in_progress ++ file ∷ []) ≤ MAX_FILES
    by_test true e = let fewer : length in_progress + 1 ≤ length files =
        filter_fewer (λ (x : File). is_same_name x.name name) files e in let m = more in omega arith
    by_test false e =
        let below : length files + 1 ≤ MAX_FILES =
        below_limit MAX_FILES (length files)
        (has_room (nat_le MAX_FILES (length files))
        (list_any (λ x. is_same_name x.name name) files) last_full room e) in
        let most : length in_progress ≤ length files =
        filter_most (λ (x : File). not (is_same_name x.name name)) files in
        let m = more in
        omega arith

or_false : (a b : Bool) → (a || b) ≡ false → a ≡ false
or_false true b h = cc
or_false false b h = refl

stage_few : (m : Machine) (r : Option AnswerValue) → staging_refusal m r ≡ None
    → length m.staged + 1 ≤ MAX_STAGED
stage_few m (Some answer) h = absurd (cc)
stage_few m None h =
    below_limit MAX_STAGED (length m.staged)
    (or_false (nat_le MAX_STAGED (length m.staged)) (nat_le (2 ^ 64 - 1) m.last_staged)
    (by_test (nat_le MAX_STAGED (length m.staged) || nat_le (2 ^ 64 - 1) m.last_staged) h))
  where
    by_test : (b : Bool) → cond b (Some AnswerValue.Resources) None ≡ None → b ≡ false
    by_test true e = absurd (cc)
    by_test false e = refl

kept_later : (last : ℕ) (in_progress : List ℕ) → KeptIs [] last in_progress []
    → KeptIs [] (last + 1) in_progress []
kept_later last in_progress k = record {
  once = k.once;
  few = k.few;
  below = all_imply (λ s. s ≤ last) (λ s. s ≤ last + 1) (λ s h. omega arith) in_progress k.below;
  ready = tt;
}

pub limited_keeps : (f : Formats) → Keeps f Limited
limited_keeps f = record {
  fails = λ m o. record {
    filed = (files_keeps f).fails m o.filed;
    files = o.files;
    staged = o.staged;
    in_progress = o.in_progress;
  };
  later = λ m moment o. record {
    filed = (files_keeps f).later m moment o.filed;
    files = o.files;
    staged = o.staged;
    in_progress = o.in_progress;
  };
  puts = λ m file bytes e o. record {
    filed = (files_keeps f).puts m file bytes e o.filed;
    files = put_few m.files file (record { name = file; serial = m.last_file + 1; bytes = bytes })
        (nat_lt MAX_FOLDER_BYTES (bytes_in (others_than file m.files) + length bytes))
        (or_false _ (nat_le (2 ^ 64 - 1) m.last_file) e) o.files;
    staged = o.staged;
    in_progress = kept_later m.last_file (kept_now m) o.in_progress;
  };
  asks = λ m o. record {
    filed = (files_keeps f).asks m o.filed;
    files = o.files;
    staged = o.staged;
    in_progress = o.in_progress;
  };
  lays = λ m address bytes o. record {
    filed = (files_keeps f).lays m address bytes o.filed;
    files = o.files;
    staged = o.staged;
    in_progress = o.in_progress;
  };
  stages = λ m address e o. record {
    filed = (files_keeps f).stages m address e o.filed;
    files = o.files;
    staged = (
        let more : length
        (m.staged ++ record { serial = m.last_staged + 1; address = address } ∷ [])
        ≡ length m.staged + 1 =
        length-append m.staged
        (record { serial = m.last_staged + 1; address = address } ∷ []) in
        let few : length m.staged + 1 ≤ MAX_STAGED =
        stage_few m (coalesced_refusal (f.coalesced m.memory address)) e in
        omega arith
        );
    in_progress = o.in_progress;
  };
  cold = λ m o. record {
    filed = (files_keeps f).cold m o.filed;
    files = o.files;
    staged = o.staged;
    in_progress = o.in_progress;
  };
  warm = λ m o. record {
    filed = (files_keeps f).warm m o.filed;
    files = o.files;
    staged = o.staged;
    in_progress = o.in_progress;
  };
  boots = λ m h j held o. boot_limited f m h j held o;
}

-- the laws
pub within_limits : (m : Machine) → Limited m → IsWithinLimits m
within_limits m o = record { files = o.files; staged = o.staged; in_progress = o.in_progress.few }

elements_given : (m : Machine) (list : List Element) → AllByRecursion (IsGiven m) (keys_of list)
    → AllByRecursion (λ (e : Element). IsGiven m e.key) list
elements_given m [] all = tt
elements_given m (e ∷ es) all = (all.0, elements_given m es all.1)

kept_below : (last : ℕ) (in_progress : List ℕ) (o : Option Element)
    → AllByRecursion (λ s. s ≤ last) (progress_with_open in_progress o)
    → AllByRecursion (λ s. s ≤ last) in_progress
kept_below last in_progress None all = all
kept_below last in_progress (Some e) all = all_without (λ s. s ≤ last) in_progress e.key all

none_of : (s : ℕ) (list : List Element) → count 0 s (keys_of list) ≡ 0
    → list_any (λ e. is_of 0 s e.key) list ≡ false
none_of s [] h = refl
none_of s (e ∷ es) h =
    elim (is_of 0 s e.key) as
    (λ b. (count 0 s (keys_of es) ≡ 0 → list_any (λ x. is_of 0 s x.key) es ≡ false)
    → length (cond b (e.key ∷ filter (is_of 0 s) (keys_of es))
    (filter (is_of 0 s) (keys_of es))) ≡ 0
    → (b || list_any (λ x. is_of 0 s x.key) es) ≡ false) [
      | true ↦ λ later k. absurd (omega arith)
      | false ↦ λ later k. later k
    ] (none_of s es) h

pub serials_given : (m : Machine) → Limited m → Keyed m → SerialsAreGiven m
serials_given m o k = record {
  elements = elements_given m m.list o.filed.given;
  in_progress = kept_below m.last_file m.in_progress (find is_open m.list) o.in_progress.below;
  staged = all_imply (λ (p : StagedPair). count 0 p.serial (keys_of m.list) ≡ 0)
      (λ (p : StagedPair). list_any (λ e. is_of 0 p.serial e.key) m.list ≡ false)
      (λ p h. none_of p.serial m.list h) m.staged k.waiting;
}
