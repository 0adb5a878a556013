-- In every machine that is reached the progress of each file of the folder is kept.
use Rattle.std.proofs.Common.{◌≡◌, ℕ, zero, suc, ◌+◌, ◌≤◌, ◌⊎◌, inl, inr, Bool, true, false, cond}
use Rattle.std.proofs.Common.{not, ◌&&◌, ◌||◌, ◌==◌, List, [], ◌∷◌, ◌++◌, length, map, filter, find}
use Rattle.std.proofs.Common.{refl, arith, sym, ap, ◌∙◌, subst, Option, Some, None}
use Rattle.std.specs.List.{AllByRecursion}
use Rattle.std.proofs.lemmas.Bool.Decides.{nat_tests}
use Rattle.reference_machine.specs.declared.snapshot.StagedPair.{StagedPair}
use Rattle.reference_machine.specs.declared.unit.End.{End}
use Rattle.reference_machine.specs.declared.unit.UnitKey.{UnitKey}
use Rattle.reference_machine.specs.Boots.{BootTask, BootState, Course, after, after_unit}
use Rattle.reference_machine.specs.Boots.{after_steps, boot_start, boot_at, boot_tasks, tasks_with}
use Rattle.reference_machine.specs.Boots.{staged_tasks, folder_tasks, is_file, progress_with}
use Rattle.reference_machine.specs.Boots.{course_of, element_of, settled, settled_with, closed_with}
use Rattle.reference_machine.specs.Boots.BootTask.{Commits, Removes}
use Rattle.reference_machine.specs.Boots.BootBatch.{Settles, Unstages, Does, Prunes, Clears}
use Rattle.reference_machine.specs.Boots.Course.{Claim, Close}
use Rattle.reference_machine.specs.Deliveries.{BootUnit}
use Rattle.reference_machine.specs.Events.{with_file}
use Rattle.reference_machine.specs.Formats.{Formats}
use Rattle.reference_machine.specs.Laws.{AreApart, SpentFilesHaveProgress}
use Rattle.reference_machine.specs.Stops.{IsHeldEnd}
use Rattle.bench_model.specs.Files.{File}
use Rattle.reference_machine.specs.Machine.{Machine}
use Rattle.bench_model.specs.Files.{is_same_name}
use Rattle.reference_machine.specs.Spent.{Element, is_of, is_open, is_closed, spent}
use Rattle.reference_machine.specs.Spent.Standing.{Open, Closed}
use Rattle.reference_machine.proofs.Apart.{all_both, all_kept, all_imply, all_more, boot_apart}
use Rattle.reference_machine.proofs.Apart.{apart_keeps}
use Rattle.reference_machine.proofs.Filing.{has, serials_of, has_all, has_filter, or_right, same}
use Rattle.reference_machine.proofs.Filing.{IsKept, kept_more, kept_front, kept_open, IsKnown}
use Rattle.reference_machine.proofs.Filing.{Known, Empties}
use Rattle.reference_machine.proofs.FilingWork.{has_each, known_work, empties_work}
use Rattle.reference_machine.proofs.Going.{Going, Sound, sound_of, boot_going, steps_going}
use Rattle.reference_machine.proofs.Going.{start_going}
use Rattle.reference_machine.proofs.Keeping.{Keeps}
use Rattle.reference_machine.proofs.Keyed.{settled_staged}
use Rattle.reference_machine.proofs.Keys.{keys_of, keys_append, keys_closed}
use Rattle.reference_machine.proofs.Lists.{Pends, closed, closed_more, find_last}

-- the serial of a unit's delivery is at most the last one of its route
abbrev pub Given : ℕ → ℕ → UnitKey → Type 0
Given last_staged last_file key =
    ((key.ticket.route ≡ 0) × (key.ticket.serial ≤ last_staged))
    ⊎ ((key.ticket.route ≡ 1) × (key.ticket.serial ≤ last_file))

abbrev pub AllGiven : Machine → Type 0
AllGiven m = AllByRecursion (Given m.last_staged m.last_file) (keys_of m.list)

-- a boot under way, over the files that were there at its start
pub record Filed (serials : List ℕ) (m : Machine) (left : List BootTask) : Type 0 where
  pub spends : SpentFilesHaveProgress m
  pub given : AllGiven m
  pub below : AllByRecursion (λ s. s ≤ m.last_file) serials
  pub known : Known m.last_staged serials left
  pub empties : Empties m.files left

unit_given : (last_staged last_file : ℕ) (serials : List ℕ) (key : UnitKey)
    → AllByRecursion (λ s. s ≤ last_file) serials → IsKnown last_staged serials key
    → Given last_staged last_file key
unit_given last_staged last_file serials key below (inl h) = inl h
unit_given last_staged last_file serials key below (inr h) =
    inr (h.0, has_all (λ s. s ≤ last_file) serials key.ticket.serial below h.1)

given_more : (serials : List ℕ) (m : Machine) (u : BootUnit) (rest : List BootTask) (e : Element)
    → e.key ≡ u.key → Filed serials m (Commits (Does u) ∷ rest)
    → AllByRecursion (Given m.last_staged m.last_file) (keys_of (m.list ++ e ∷ []))
given_more serials m u rest e is r =
    subst (AllByRecursion (Given m.last_staged m.last_file)) (sym (keys_append m.list (e ∷ [])))
    (all_more (Given m.last_staged m.last_file) (keys_of m.list) e.key r.given
    (subst (Given m.last_staged m.last_file) (sym is)
    (unit_given m.last_staged m.last_file serials u.key r.below r.known.0)))

unit_filed : (f : Formats) (serials : List ℕ) (b : BootState) (u : BootUnit) (rest : List BootTask)
    (c : Course) → Filed serials b.machine (Commits (Does u) ∷ rest)
    → Filed serials (after_unit f b u rest c).machine (after_unit f b u rest c).left
unit_filed f serials b u rest Claim r =
    let m : Machine = b.machine in
    let e : Element = element_of f u Open in
    record {
      spends = all_imply (λ (x : File). IsKept m.list m.in_progress x.serial)
          (λ (x : File). IsKept (m.list ++ e ∷ []) m.in_progress x.serial)
          (λ x h. kept_open m.list m.in_progress e x.serial refl h) m.files r.spends;
      given = given_more serials m u rest e refl r;
      below = r.below;
      known = r.known.1;
      empties = r.empties;
    }
unit_filed f serials b u rest (Close end) r =
    let m : Machine = b.machine in
    let e : Element = element_of f u (Closed end m.now) in
    record {
      spends = all_imply (λ (x : File). IsKept m.list m.in_progress x.serial)
          (λ (x : File). IsKept (m.list ++ e ∷ []) (progress_with m.in_progress e.key) x.serial)
          (λ x h. kept_more m.list m.in_progress e x.serial h) m.files r.spends;
      given = given_more serials m u rest e refl r;
      below = r.below;
      known = r.known.1;
      empties = r.empties;
    }

settle_filed : (serials : List ℕ) (m : Machine) (end : End) (rest : List BootTask)
    → Pends m.board m.list → Filed serials m rest → Filed serials (settled m end) rest
settle_filed serials m end rest p r =
    let found : find is_open m.list ≡ Some p.last =
    ap (find is_open) p.parts ∙ find_last p.front p.last p.none p.is_last in
    let is : settled m end ≡ settled_with m end (Some p.last) = ap (settled_with m end) found in
    let e : Element = closed p.last end m.now in
    let list : map (closed_with end m.now) m.list ≡ p.front ++ e ∷ [] =
    ap (map (closed_with end m.now)) p.parts
    ∙ closed_more end m.now p.front p.last p.none p.is_last in
    let each : (x : File) → IsKept m.list m.in_progress x.serial
    → IsKept (map (closed_with end m.now) m.list)
    (progress_with m.in_progress p.last.key) x.serial =
    λ x h. subst (λ l. IsKept l (progress_with m.in_progress p.last.key) x.serial) (sym list)
    (kept_more p.front m.in_progress e x.serial
    (kept_front p.front m.in_progress p.last x.serial
    (subst (λ l. IsKept l m.in_progress x.serial) p.parts h))) in
    subst (λ x. Filed serials x rest) (sym is)
    (record {
      spends = all_imply (λ (x : File). IsKept m.list m.in_progress x.serial)
          (λ (x : File). IsKept (map (closed_with end m.now) m.list)
          (progress_with m.in_progress p.last.key) x.serial) each m.files r.spends;
      given = subst (AllByRecursion (Given m.last_staged m.last_file))
          (sym (keys_closed end m.now m.list)) r.given;
      below = r.below;
      known = r.known;
      empties = r.empties;
    })

-- each file of a folder is there
there_each : (xs : List File) → AllByRecursion (λ (x : File). is_file xs x.serial ≡ true) xs
there_each [] = tt
there_each (x ∷ xs) = (
  ap (λ b. b || is_file xs x.serial) (same x.serial),
  all_imply (λ (y : File). is_file xs y.serial ≡ true)
      (λ (y : File). is_file (x ∷ xs) y.serial ≡ true)
      (λ y h. or_right (x.serial == y.serial) (is_file xs y.serial) h) xs (there_each xs),
)

no_files : (P : File → Type 0) (files : List File) → files ≡ [] → AllByRecursion P files
no_files P files e = subst (AllByRecursion P) (sym e) tt

after_filed : (f : Formats) (serials : List ℕ) (b : BootState) (left : List BootTask)
    → b.left ≡ left → Going b.machine left → Filed serials b.machine left
    → Filed serials (after f b left).machine (after f b left).left
after_filed f serials b [] e g r = subst (Filed serials b.machine) (sym e) r
after_filed f serials b (Commits (Settles kind end) ∷ rest) e (inl g) r = absurd g.1
after_filed f serials b (Commits (Settles kind end) ∷ rest) e (inr g) r =
    settle_filed serials b.machine end rest g.0
    (record {
      spends = r.spends;
      given = r.given;
      below = r.below;
      known = r.known;
      empties = r.empties;
    })
after_filed f serials b (Commits (Unstages p) ∷ rest) e g r = record {
  spends = r.spends;
  given = r.given;
  below = r.below;
  known = r.known;
  empties = r.empties;
}
after_filed f serials b (Commits (Does u) ∷ rest) e g r =
    unit_filed f serials b u rest (course_of f b.machine u u.kind) r
after_filed f serials b (Commits Prunes ∷ rest) e g r = record {
  spends = all_both (λ (x : File). is_file b.machine.files x.serial ≡ true)
      (λ (x : File). IsKept b.machine.list b.machine.in_progress x.serial)
      (λ (x : File). IsKept b.machine.list
      (filter (is_file b.machine.files) b.machine.in_progress) x.serial)
      (λ x is h lt. has_filter (is_file b.machine.files) b.machine.in_progress x.serial is
      (h lt)) b.machine.files (there_each b.machine.files) r.spends;
  given = r.given;
  below = r.below;
  known = r.known;
  empties = r.empties;
}
after_filed f serials b (Removes serial ∷ rest) e g r = record {
  spends = all_kept (λ (x : File). IsKept b.machine.list b.machine.in_progress x.serial)
      (λ x. not (x.serial == serial)) b.machine.files r.spends;
  given = r.given;
  below = r.below;
  known = r.known;
  empties = r.empties;
}
after_filed f serials b (Commits Clears ∷ rest) e g r = record {
  spends = no_files (λ (x : File). IsKept b.machine.list [] x.serial) b.machine.files r.empties.0;
  given = r.given;
  below = r.below;
  known = r.known;
  empties = r.empties.1;
}

pub steps_filed : (f : Formats) (serials : List ℕ) (n : ℕ) (b : BootState) → Going b.machine b.left
    → Filed serials b.machine b.left
    → Filed serials (after_steps f n b).machine (after_steps f n b).left
steps_filed f serials zero b g r = r
steps_filed f serials (suc n) b g r =
    after_filed f serials (after_steps f n b) (after_steps f n b).left refl (steps_going f n b g)
    (steps_filed f serials n b g r)

-- between events
pub record Files (m : Machine) : Type 0 where
  pub sound : Sound m
  pub apart : AreApart m
  pub spends : SpentFilesHaveProgress m
  pub given : AllGiven m

serials_below : (last : ℕ) (xs : List File) → AllByRecursion (λ (x : File). x.serial ≤ last) xs
    → AllByRecursion (λ s. s ≤ last) (serials_of xs)
serials_below last [] all = tt
serials_below last (x ∷ xs) all = (all.0, serials_below last xs all.1)

pub settled_files : (m : Machine) (end : End) (o : Option Element)
    → (settled_with m end o).files ≡ m.files
settled_files m end None = refl
settled_files m end (Some e) = refl

-- a boot begins so
pub start_filed : (f : Formats) (m : Machine) (h : End) → Files m
    → Filed (serials_of m.files) m (boot_tasks f m h)
start_filed f m h o = record {
  spends = o.spends;
  given = o.given;
  below = serials_below m.last_file m.files o.apart.last_file;
  known = known_with (find is_open m.list);
  empties = empties_with (find is_open m.list);
}
  where
    serials : List ℕ
    serials = serials_of m.files

    healed : Machine
    healed = settled m h

    staged_below : AllByRecursion (λ (p : StagedPair). p.serial ≤ m.last_staged) healed.staged
    staged_below =
        subst (AllByRecursion (λ (p : StagedPair). p.serial ≤ m.last_staged))
        (sym (settled_staged m h (find is_open m.list))) o.apart.last_staged

    files_there : AllByRecursion (λ (x : File). has serials x.serial ≡ true) healed.files
    files_there =
        subst (AllByRecursion (λ (x : File). has serials x.serial ≡ true))
        (sym (settled_files m h (find is_open m.list))) (has_each m.files)

    known_with : (x : Option Element) → Known m.last_staged serials (tasks_with f m h x)
    known_with None = known_work f m m.last_staged serials o.apart.last_staged (has_each m.files)
    known_with (Some e) = known_work f healed m.last_staged serials staged_below files_there

    empties_with : (x : Option Element) → Empties m.files (tasks_with f m h x)
    empties_with None = empties_work f m
    empties_with (Some e) =
        subst (λ (xs : List File). Empties xs (staged_tasks f healed ++ folder_tasks f healed))
        (settled_files m h (find is_open m.list)) (empties_work f healed)

pub boot_files : (f : Formats) (m : Machine) (h : End) (j : ℕ) → IsHeldEnd h → Files m
    → Files (boot_at f m h j).machine
boot_files f m h j held o =
    let there : Filed (serials_of m.files) (boot_at f m h j).machine (boot_at f m h j).left =
    steps_filed f (serials_of m.files) j (boot_start f m h) (start_going f m h held o.sound)
    (start_filed f m h o) in
    record {
      sound = sound_of (boot_at f m h j).machine (boot_at f m h j).left
          (boot_going f m h j held o.sound);
      apart = boot_apart f m h j o.apart;
      spends = there.spends;
      given = there.given;
    }

-- of the next file nothing is spent
not_next : (last_staged last_file : ℕ) (key : UnitKey) → Given last_staged last_file key
    → is_of 1 (last_file + 1) key ≡ false
not_next last_staged last_file key (inl h) =
    ap (λ i. i == 1 && key.ticket.serial == last_file + 1) h.0
not_next last_staged last_file key (inr h) =
    by_route (key.ticket.route == 1) (above key.ticket.serial h.1)
  where
    above : (s : ℕ) → s ≤ last_file → (s == last_file + 1) ≡ false
    above s le = grind (arith, nat_tests)

    by_route : (b : Bool) → (key.ticket.serial == last_file + 1) ≡ false
        → (b && key.ticket.serial == last_file + 1) ≡ false
    by_route true e = e
    by_route false e = refl

none_spent : (last_staged last_file : ℕ) (list : List Element)
    → AllByRecursion (Given last_staged last_file) (keys_of list) → spent list (last_file + 1) ≡ 0
none_spent last_staged last_file [] all = refl
none_spent last_staged last_file (e ∷ es) all =
    let passed : List Element = filter (λ x. is_of 1 (last_file + 1) x.key && is_closed x) es in
    ap (λ b. length (cond (b && is_closed e) (e ∷ passed) passed))
    (not_next last_staged last_file e.key all.0) ∙ none_spent last_staged last_file es all.1

later_file : (last_staged last_file : ℕ) (key : UnitKey) → Given last_staged last_file key
    → Given last_staged (last_file + 1) key
later_file last_staged last_file key (inl h) = inl h
later_file last_staged last_file key (inr h) = let le : key.ticket.serial ≤ last_file =
    h.1 in inr (h.0, omega arith)

later_staged : (last_staged last_file : ℕ) (key : UnitKey) → Given last_staged last_file key
    → Given (last_staged + 1) last_file key
later_staged last_staged last_file key (inl h) = let le : key.ticket.serial ≤ last_staged =
    h.1 in inl (h.0, omega arith)
later_staged last_staged last_file key (inr h) = inr h

put_spends : (m : Machine) (name bytes : List ℕ) → Files m
    → SpentFilesHaveProgress (with_file m name bytes)
put_spends m name bytes o =
    let file : File = record { name = name; serial = m.last_file + 1; bytes = bytes } in
    let none : spent m.list (m.last_file + 1) ≡ 0 =
    none_spent m.last_staged m.last_file m.list o.given in
    all_more (λ (x : File). IsKept m.list m.in_progress x.serial)
    (filter (λ x. not (is_same_name x.name name)) m.files) file
    (all_kept (λ (x : File). IsKept m.list m.in_progress x.serial)
    (λ x. not (is_same_name x.name name)) m.files o.spends) (λ lt. absurd (omega arith))

pub files_keeps : (f : Formats) → Keeps f Files
files_keeps f = record {
  fails = λ m o. record {
    sound = o.sound;
    apart = (apart_keeps f).fails m o.apart;
    spends = o.spends;
    given = o.given;
  };
  later = λ m moment o. record {
    sound = o.sound;
    apart = (apart_keeps f).later m moment o.apart;
    spends = o.spends;
    given = o.given;
  };
  puts = λ m file bytes e o. record {
    sound = o.sound;
    apart = (apart_keeps f).puts m file bytes e o.apart;
    spends = put_spends m file bytes o;
    given = all_imply (Given m.last_staged m.last_file) (Given m.last_staged (m.last_file + 1))
        (later_file m.last_staged m.last_file) (keys_of m.list) o.given;
  };
  asks = λ m o. record {
    sound = o.sound;
    apart = (apart_keeps f).asks m o.apart;
    spends = o.spends;
    given = o.given;
  };
  lays = λ m address bytes o. record {
    sound = o.sound;
    apart = (apart_keeps f).lays m address bytes o.apart;
    spends = o.spends;
    given = o.given;
  };
  stages = λ m address e o. record {
    sound = o.sound;
    apart = (apart_keeps f).stages m address e o.apart;
    spends = o.spends;
    given = all_imply (Given m.last_staged m.last_file) (Given (m.last_staged + 1) m.last_file)
        (later_staged m.last_staged m.last_file) (keys_of m.list) o.given;
  };
  cold = λ m o. record {
    sound = o.sound;
    apart = (apart_keeps f).cold m o.apart;
    spends = o.spends;
    given = o.given;
  };
  warm = λ m o. record {
    sound = o.sound;
    apart = (apart_keeps f).warm m o.apart;
    spends = o.spends;
    given = o.given;
  };
  boots = λ m h j held o. boot_files f m h j held o;
}
