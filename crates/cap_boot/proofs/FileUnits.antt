-- The units of a file that are not spent yet, as those of the capsules of its bytes.
use Rattle.std.proofs.Common.{◌≡◌, ◌<◌, ◌==◌, ◌∙◌, ℕ, zero, suc, List, None, Option, Result, Some}
use Rattle.std.proofs.Common.{◌∷◌, [], Bool, Err, ap, arith, cond, drop, false, find, map, refl}
use Rattle.std.proofs.Common.{subst, sym, true}
use Rattle.std.proofs.lemmas.Bool.{ne_eqb}
use Rattle.std.proofs.Common.{inl}
use Rattle.std.specs.List.{enumerate_from, list_all, list_any}
use Rattle.std.specs.Prelude.{option_map, unwrap_or}
use Rattle.bench_model.specs.Bench.{BenchValue, Contents}
use Rattle.bench_model.specs.Files.{File, FolderValue, ListedFile, file_bytes}
use Rattle.reference_machine.specs.Boots.{BootState, BootTask, file_delivery, unit_tasks}
use Rattle.reference_machine.specs.Boots.BootTask.{Commits, Removes}
use Rattle.reference_machine.specs.Deliveries.{BootUnit, Delivery, decoded_units, numbered}
use Rattle.reference_machine.specs.Deliveries.{units}
use Rattle.reference_machine.specs.Formats.{Capsule, Formats}
use Rattle.reference_machine.specs.Machine.{Machine}
use Rattle.reference_machine.specs.Spent.{spent}
use Rattle.reference_machine.specs.Stops.{is_folder_task, is_removal}
use Rattle.reference_machine.proofs.Reached.{spends}
use Rattle.stored_vars.specs.Holds.{units_of}
use Rattle.stored_vars.specs.Stands.{Holds}
use Rattle.var_log.specs.Changes.{Variables}
use Rattle.var_store.specs.Stores.{variables_of}
use Rattle.cap_boot.specs.declared.fault.BootFault.{BootFault}
use Rattle.cap_boot.specs.declared.fault.BootFault.TheVariants.{Flash, Volume, NoBank, Memory}
use Rattle.cap_boot.specs.Faults.{IsOfListing}
use Rattle.cap_boot.specs.Going.{Goes, IsAny, IsThenRemoved, nothing}
use Rattle.cap_boot.specs.Keeps.{KeepsFileThere, KeepsUnit}
use Rattle.cap_boot.specs.Situations.{IsAt, IsUnderWay, Situation}
use Rattle.cap_boot.specs.Stands.{Setting}
use Rattle.cap_boot.specs.Tasks.{TellsFile, entry_of, file_of, file_unit_tasks}
use Rattle.cap_boot.specs.Tasks.{found_unit_tasks}
use Rattle.cap_boot.specs.Units.{decoded_tasks, delivery_key}
use Rattle.cap_boot.proofs.Delivered.{delivery_by, units_alike}
use Rattle.cap_boot.proofs.Files.{IsCalm, at_folder, found_units_folder, list_all_append}
use Rattle.cap_boot.proofs.Folders.{calm_append, units_calm}
use Rattle.cap_boot.proofs.Frames.{at_same}
use Rattle.cap_boot.proofs.Listings.{IsTold, all_found, told_file}
use Rattle.cap_boot.proofs.Onward.{reached_now}
use Rattle.cap_boot.proofs.Works.{goes_narrow, keeps_less, memory_at_rest, rest_stopped}
use Rattle.cap_boot.proofs.Works.{works_as}

-- what a delivery of a file keeps, keeps all files and what is spent of others
keeps_file : (serial : ℕ) (name : List ℕ) (a b : Machine)
    → KeepsUnit (delivery_key (delivery_by 1 serial name None)) a b → KeepsFileThere serial a b
keeps_file serial name a b k = record {
  files = k.files;
  spent = λ s other. k.spent s (ne_eqb serial s (λ is. other (sym is)));
}

none_spent : (n : ℕ) (b : Bool) → b ≡ false → (0 < n → b ≡ true) → n ≡ 0
none_spent zero b off some = refl
none_spent (suc n) b off some = absurd (let e : false ≡ true = sym off ∙ some (omega arith) in cc)

-- the store tells how many units of a file of the folder are spent
spent_told : (variables : Variables) (m : Machine) (s : ℕ) → Holds variables m
    → (0 < spent m.list s → list_any (λ t. t == s) m.in_progress ≡ true)
    → units_of variables s ≡ spent m.list s
spent_told variables m s h kept =
    ap (λ (o : Option ℕ). unwrap_or o 0) (h.progress s)
    ∙ by_test (list_any (λ t. t == s) m.in_progress) refl
  where
    by_test : (b : Bool) → list_any (λ t. t == s) m.in_progress ≡ b
        → unwrap_or (cond b (Some (spent m.list s)) None) 0 ≡ spent m.list s
    by_test true is = refl
    by_test false is = sym (none_spent (spent m.list s) _ is kept)

module _ (x : Setting) (a : ListedFile) (y : Situation) (told : TellsFile a y.bench) where
  -- the file of the machine, told as it is
  file_now : IsTold a (find (λ z. z.serial == a.serial) y.bench.contents.rest.folder.files)
  file_now = told_file a _ told

  its_bytes : file_bytes a.serial y.bench.contents.rest.folder.files ≡ file_now.file.bytes
  its_bytes = ap (λ (o : Option File). unwrap_or (option_map (λ z. z.bytes) o) []) file_now.is

  its_spent : (b : BootState) → IsUnderWay x b → IsAt x b y
      → units_of (variables_of y.store) a.serial ≡ spent b.machine.list a.serial
  its_spent b way at =
      let m : Machine = b.machine in
      let found : find (λ z. z.serial == a.serial) m.files ≡ Some file_now.file =
      ap (λ (v : FolderValue). find (λ z. z.serial == a.serial) v.files) (sym at.outside.folder)
      ∙ file_now.is in
      let kept : 0 < spent m.list file_now.file.serial
      → list_any (λ t. t == file_now.file.serial) m.in_progress ≡ true =
      all_found (λ (z : File). 0 < spent m.list z.serial
      → list_any (λ t. t == z.serial) m.in_progress ≡ true) a.serial m.files file_now.file
      (spends x.formats x.board m (reached_now x b way)) found in
      spent_told (variables_of y.store) m a.serial at.stores.variables
      (subst (λ (s : ℕ). 0 < spent m.list s → list_any (λ t. t == s) m.in_progress ≡ true)
      (ap (λ (e : ListedFile). e.serial) file_now.entry) kept)

  its_units : (from serial : ℕ) (name bytes : List ℕ) (found : Option (List Capsule))
      → serial ≡ a.serial → name ≡ a.name
      → bytes ≡ file_bytes a.serial y.bench.contents.rest.folder.files
      → found ≡ x.formats.capsules bytes → from ≡ units_of (variables_of y.store) a.serial
      → (b : BootState) → IsUnderWay x b → IsAt x b y
      → file_unit_tasks x.formats a.serial b.machine
      ≡ decoded_tasks (delivery_by 1 serial name None) found from b.machine
  its_units from serial name bytes found serial_is name_is bytes_are found_is from_is b way at =
      let f : Formats = x.formats in
      let m : Machine = b.machine in
      let z : File = file_now.file in
      let tasks : ℕ → Delivery → Option (List Capsule) → List BootTask = λ n d o.
      unit_tasks (drop n (map numbered (enumerate_from 0 (decoded_units m.board d o)))) in
      let there : file_of m a.serial ≡ Some z =
      ap (λ (v : FolderValue). find (λ w. w.serial == a.serial) v.files) (sym at.outside.folder)
      ∙ file_now.is in
      let same : f.capsules z.bytes ≡ found =
      ap f.capsules (sym its_bytes ∙ sym bytes_are) ∙ sym found_is in
      let count : spent m.list z.serial ≡ from =
      ap (spent m.list) (ap (λ (e : ListedFile). e.serial) file_now.entry)
      ∙ sym (from_is ∙ its_spent b way at) in
      ap (found_unit_tasks f m) there
      ∙ ap (λ (n : ℕ). tasks n (file_delivery z) (f.capsules z.bytes)) count
      ∙ ap (tasks from (file_delivery z)) same
      ∙ ap (λ (us : List BootUnit). unit_tasks (drop from (map numbered (enumerate_from 0 us))))
      (units_alike m.board 1 z.serial z.name (Some z.bytes) None found)
      ∙ ap (λ (s : ℕ). tasks from (delivery_by 1 s z.name None) found)
      (ap (λ (e : ListedFile). e.serial) file_now.entry ∙ sym serial_is)
      ∙ ap (λ (n : List ℕ). tasks from (delivery_by 1 serial n None) found)
      (ap (λ (e : ListedFile). e.name) file_now.entry ∙ sym name_is)

  -- the units of a file that are not spent yet are those of the capsules of its bytes
  pub file_done : {T : Type 0} (from serial : ℕ) (name bytes : List ℕ)
      (found : Option (List Capsule)) {z : Situation} {r : Result T BootFault}
      → serial ≡ a.serial → name ≡ a.name
      → (y.bench.contents.told ≡ true
      → bytes ≡ file_bytes a.serial y.bench.contents.rest.folder.files)
      → found ≡ x.formats.capsules bytes → from ≡ units_of (variables_of y.store) a.serial
      → Goes x IsAny (KeepsUnit (delivery_key (delivery_by 1 serial name None)))
      (decoded_tasks (delivery_by 1 serial name None) found from) nothing y r z
      → Goes x IsThenRemoved (KeepsFileThere a.serial) (file_unit_tasks x.formats a.serial) nothing
      y r z
  file_done from serial name bytes found serial_is name_is bytes_are found_is from_is goes =
      goes_narrow x (λ start rest may. tt)
      (keeps_less x (λ m n k. subst (λ (s : ℕ). KeepsFileThere s m n) serial_is
      (keeps_file serial name m n k))
      (works_as x (λ b way at. its_units from serial name bytes found serial_is name_is
      (bytes_are at.told) found_is from_is b way at) goes))

-- a file is told as it was where only counts changed
pub told_same : (a : ListedFile) (b c : BenchValue) → c.contents ≡ b.contents → TellsFile a b
    → TellsFile a c
told_same a b c same told =
    subst (λ (s : Contents).
    option_map entry_of (find (λ z. z.serial == a.serial) s.rest.folder.files) ≡ Some a)
    (sym same) told

-- ---- a file that was not read

found_calm : (f : Formats) (m : Machine) (o : Option File) → IsCalm (found_unit_tasks f m o)
found_calm f m None = tt
found_calm f m (Some z) =
    units_calm (drop (spent m.list z.serial) (units f (file_delivery z) m.board))

removal_calm : (rest : List BootTask) → is_removal rest ≡ true → IsCalm rest
removal_calm [] is = tt
removal_calm (Commits batch ∷ rest) is = absurd (let e : false ≡ true = is in cc)
removal_calm (Removes serial ∷ rest) is = tt

-- the volume failed before any unit was done, or memory ran out
pub reading_failed : {T : Type 0} (x : Setting) (s : ℕ) (y z : Situation) (fault : BootFault)
    → IsOfListing fault → z.store ≡ y.store → z.bench.contents ≡ y.bench.contents
    → z.report ≡ y.report
    → Goes {T = T} x IsThenRemoved (KeepsFileThere s) (file_unit_tasks x.formats s) nothing y
    (Err fault) z
reading_failed x s y z Flash may store alike report = absurd may
reading_failed x s y z Volume may store alike report = record {
  from = λ b rest way behind left at.
      let tasks : List BootTask = file_unit_tasks x.formats s b.machine in
      let there = at_same x b y z store alike report at in
      let o : Option File = file_of b.machine s in
      let calm : IsCalm b.left =
      subst IsCalm (sym left) (calm_append tasks rest (found_calm x.formats b.machine o)
      (removal_calm rest behind.1)) in
      let folder : list_all is_folder_task b.left ≡ true =
      ap (list_all is_folder_task) left
      ∙ list_all_append is_folder_task tasks rest (found_units_folder x.formats b.machine o)
      behind.0.1 in
      record {
        steps = 0;
        stopped = rest_stopped x Volume way.start b z there (
          there.report,
          (behind.0.0, at_folder x b way calm folder, inl refl),
        );
      };
}
reading_failed x s y z NoBank may store alike report = absurd may
reading_failed x s y z Memory may store alike report = record {
  from = λ b rest way behind left at.
      record {
        steps = 0;
        stopped = memory_at_rest x way.start b z (at_same x b y z store alike report at);
      };
}
