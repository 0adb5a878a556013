-- The work on the folder from its pieces.
use Rattle.std.proofs.Common.{◌≡◌, ℕ, ◌==◌, ◌||◌, inl, List, [], ◌∷◌, ◌++◌, flat_map}
use Rattle.std.proofs.Common.{find, refl, sym, ◌∙◌, ap, subst, Bool, true, false, cond}
use Rattle.std.proofs.Common.{Some, IsTrue, append_assoc, append-nil, Result, Err, drop, ◌/◌, ◌%◌}
use Rattle.std.specs.List.{AllByRecursion, AllPairs, list_all, list_any}
use Rattle.bench_model.specs.Bench.{BenchValue}
use Rattle.bench_model.specs.Files.{File, FolderValue, HaveOtherSerials, ListedFile}
use Rattle.bench_model.specs.Files.{has_serial, listed}
use Rattle.reference_machine.specs.Boots.{BootState, BootTask, after_steps, file_delivery}
use Rattle.reference_machine.specs.Boots.{file_tasks}
use Rattle.reference_machine.specs.Boots.{files_in_order, folder_tasks, is_file, prune_tasks}
use Rattle.reference_machine.specs.Boots.{unit_tasks}
use Rattle.reference_machine.specs.Boots.BootBatch.{Settles, Unstages, Does, Prunes, Clears}
use Rattle.reference_machine.specs.Boots.BootTask.{Commits, Removes}
use Rattle.reference_machine.specs.Deliveries.{BootUnit, units}
use Rattle.reference_machine.specs.Formats.{Formats}
use Rattle.reference_machine.specs.Machine.{Machine}
use Rattle.reference_machine.specs.Names.{is_taken_before}
use Rattle.reference_machine.specs.Order.{in_order, inserted}
use Rattle.reference_machine.specs.Spent.{spent}
use Rattle.reference_machine.specs.Stops.{is_folder_task}
use Rattle.reference_machine.proofs.Filing.{or_right, same}
use Rattle.reference_machine.proofs.Ordered.{all_ordered}
use Rattle.reference_machine.proofs.Reached.{apart}
use Rattle.stored_vars.specs.Holds.{indications_of, is_asked}
use Rattle.var_store.specs.Stores.{variables_of}
use Rattle.cap_boot.specs.declared.fault.BootFault.{BootFault}
use Rattle.cap_boot.specs.declared.fault.BootFault.TheVariants.{Flash, Volume, NoBank, Memory}
use Rattle.cap_boot.specs.Faults.{IsOfListing}
use Rattle.cap_boot.specs.Going.{Goes, IsAny, IsFolder, IsNone, Tasks, nothing}
use Rattle.cap_boot.specs.Keeps.{KeepsFiles, KeepsNothing}
use Rattle.cap_boot.specs.Situations.{IsAt, Situation}
use Rattle.cap_boot.specs.Stands.{Setting}
use Rattle.cap_boot.specs.Tasks.{HaveFiles, ListsFiles, clear_tasks, files_tasks, serials_of}
use Rattle.cap_boot.proofs.Files.{IsCalm, at_folder, files_same, found_folder}
use Rattle.cap_boot.proofs.Files.{list_all_append, listed_work}
use Rattle.cap_boot.proofs.Frames.{at_same, starts_as}
use Rattle.cap_boot.proofs.Listings.{have_told}
use Rattle.cap_boot.proofs.Onward.{asked_at_start, reached_now, steps_ground}
use Rattle.cap_boot.proofs.Works.{goes_where, memory_at_rest, rest_stopped, with_behind}
use Rattle.cap_boot.proofs.Works.{works_as}

-- ---- what a listing tells

swap : (a b c : Bool) → (a || (b || c)) ≡ (b || (a || c))
swap true true c = refl
swap true false c = refl
swap false true c = refl
swap false false c = refl

any_inserted : (p : File → Bool) (before : File → File → Bool) (x : File) (ys : List File)
    → list_any p (inserted before x ys) ≡ (p x || list_any p ys)
any_inserted p before x [] = refl
any_inserted p before x (y ∷ ys) =
    elim (before y x) as (λ b.
    list_any p (cond b (y ∷ inserted before x ys) (x ∷ y ∷ ys)) ≡ (p x || (p y || list_any p ys))) [
      | true ↦ ap (λ (t : Bool). p y || t) (any_inserted p before x ys)
          ∙ swap (p y) (p x) (list_any p ys)
      | false ↦ refl
    ]

any_ordered : (p : File → Bool) (before : File → File → Bool) (xs : List File)
    → list_any p (in_order before xs) ≡ list_any p xs
any_ordered p before [] = refl
any_ordered p before (x ∷ xs) =
    any_inserted p before x (in_order before xs)
    ∙ ap (λ (t : Bool). p x || t) (any_ordered p before xs)

any_listed : (s : ℕ) (xs : List File)
    → list_any (λ t. t == s) (serials_of (listed xs)) ≡ is_file xs s
any_listed s [] = refl
any_listed s (x ∷ xs) = ap (λ (t : Bool). (x.serial == s) || t) (any_listed s xs)

-- the serials of a listing are those of the folder
pub lists_files : (b : BenchValue) (before : File → File → Bool) (files : List ListedFile)
    (serials : List ℕ) → files ≡ listed (in_order before b.contents.rest.folder.files)
    → serials ≡ serials_of files → ListsFiles serials b
lists_files b before files serials are is s =
    let xs = b.contents.rest.folder.files in
    ap (λ (ns : List ℕ). list_any (λ t. t == s) ns) (is ∙ ap serials_of are)
    ∙ any_listed s (in_order before xs) ∙ any_ordered (λ x. x.serial == s) before xs

there_later : (x : File) (xs ys : List File)
    → AllByRecursion (λ y. has_serial y.serial xs ≡ true) ys
    → AllByRecursion (λ y. has_serial y.serial (x ∷ xs) ≡ true) ys
there_later x xs [] all = tt
there_later x xs (y ∷ ys) all =
    (or_right (x.serial == y.serial) (has_serial y.serial xs) all.0, there_later x xs ys all.1)

there_each : (xs : List File) → AllByRecursion (λ y. has_serial y.serial xs ≡ true) xs
there_each [] = tt
there_each (x ∷ xs) = (
  ap (λ (t : Bool). t || has_serial x.serial xs) (same x.serial),
  there_later x xs xs (there_each xs),
)

-- the files of a listing are as it tells them
pub have_files : (b : BenchValue) (before : File → File → Bool) (files : List ListedFile)
    → files ≡ listed (in_order before b.contents.rest.folder.files)
    → AllPairs HaveOtherSerials files → HaveFiles files b
have_files b before files are pairs =
    let xs = b.contents.rest.folder.files in
    have_told b before files are pairs
    (all_ordered (λ x. has_serial x.serial xs ≡ true) before xs (there_each xs))

-- ---- the work

-- the work on the folder where it was asked for
pub asked_work : (f : Formats) (m : Machine) → m.is_signalled ≡ true
    → folder_tasks f m
    ≡ (prune_tasks m ++ flat_map (file_tasks f m) (files_in_order m)) ++ clear_tasks m
asked_work f m asked =
    ap (λ (t : Bool). cond t
    ((prune_tasks m ++ flat_map (file_tasks f m) (files_in_order m)) ++ clear_tasks m) []) asked

pub folder_none : (f : Formats) (m : Machine) → m.is_signalled ≡ false → folder_tasks f m ≡ []
folder_none f m asked =
    ap (λ (t : Bool). cond t
    ((prune_tasks m ++ flat_map (file_tasks f m) (files_in_order m)) ++ clear_tasks m) []) asked

prune_folder : (t : Bool) → list_all is_folder_task (cond t (Commits Prunes ∷ []) []) ≡ true
prune_folder true = refl
prune_folder false = refl

each_folder : (f : Formats) (m : Machine) (xs : List File)
    → list_all is_folder_task (flat_map (file_tasks f m) xs) ≡ true
each_folder f m [] = refl
each_folder f m (x ∷ xs) =
    list_all_append is_folder_task (file_tasks f m x) (flat_map (file_tasks f m) xs)
    (found_folder f m (Some x)) (each_folder f m xs)

pub calm_append : (xs ys : List BootTask) → IsCalm xs → IsCalm ys → IsCalm (xs ++ ys)
calm_append [] ys a b = b
calm_append (Commits (Settles kind end) ∷ xs) ys a b = absurd a
calm_append (Commits (Unstages pair) ∷ xs) ys a b = tt
calm_append (Commits (Does unit) ∷ xs) ys a b = tt
calm_append (Commits Prunes ∷ xs) ys a b = tt
calm_append (Commits Clears ∷ xs) ys a b = tt
calm_append (Removes serial ∷ xs) ys a b = tt

pub units_calm : (us : List BootUnit) → IsCalm (unit_tasks us)
units_calm [] = tt
units_calm (u ∷ us) = tt

prune_calm : (t : Bool) → IsCalm (cond t (Commits Prunes ∷ []) [])
prune_calm true = tt
prune_calm false = tt

each_calm : (f : Formats) (m : Machine) (xs : List File)
    → IsCalm (flat_map (file_tasks f m) xs)
each_calm f m [] = tt
each_calm f m (x ∷ xs) =
    let us = drop (spent m.list x.serial) (units f (file_delivery x) m.board) in
    calm_append (file_tasks f m x) (flat_map (file_tasks f m) xs)
    (calm_append (unit_tasks us) (Removes x.serial ∷ []) (units_calm us) tt) (each_calm f m xs)

-- the folder's work is of the folder, and settles nothing
pub record IsOfFolder (left : List BootTask) : Type 0 where
  pub folder : list_all is_folder_task left ≡ true
  pub calm : IsCalm left

asked_of_folder : (f : Formats) (m : Machine) → m.is_signalled ≡ true
    → IsOfFolder (folder_tasks f m)
asked_of_folder f m asked =
    let files = flat_map (file_tasks f m) (files_in_order m) in
    subst IsOfFolder (sym (asked_work f m asked)) (record {
      folder = list_all_append is_folder_task (prune_tasks m ++ files) (clear_tasks m)
          (list_all_append is_folder_task (prune_tasks m) files (prune_folder _)
          (each_folder f m (files_in_order m))) refl;
      calm = calm_append (prune_tasks m ++ files) (clear_tasks m)
          (calm_append (prune_tasks m) files (prune_calm _)
          (each_calm f m (files_in_order m))) tt;
    })

-- ---- what the store says

-- the store says whether the files were asked for
pub asked_is : (x : Setting) (b : BootState) (y : Situation) → IsAt x b y
    → is_asked (variables_of y.store) ≡ b.machine.is_signalled
asked_is x b y at = by_bit b.machine.is_signalled at.stores.variables.asked
  where
    by_bit : (t : Bool) → indications_of (variables_of y.store) ≡ cond t 4 0
        → is_asked (variables_of y.store) ≡ t
    by_bit true is = ap (λ (n : ℕ). n / 4 % 2 == 1) is
    by_bit false is = ap (λ (n : ℕ). n / 4 % 2 == 1) is

-- ---- the exits

-- a listing that failed
pub listing_failed : {T : Type 0} (x : Setting) (y z : Situation) (fault : BootFault)
    → IsOfListing fault → z.store ≡ y.store → z.bench.contents ≡ y.bench.contents
    → z.report ≡ y.report → is_asked (variables_of y.store) ≡ true
    → Goes {T = T} x IsNone KeepsNothing (folder_tasks x.formats) nothing y (Err fault) z
listing_failed x y z Flash may store alike report asked = absurd may
listing_failed x y z Volume may store alike report asked = record {
  from = λ b rest way none left at.
      let on : b.machine.is_signalled ≡ true = sym (asked_is x b y at) ∙ asked in
      let there = at_same x b y z store alike report at in
      let all : b.left ≡ folder_tasks x.formats b.machine ++ [] =
      left ∙ ap (λ (w : List BootTask). folder_tasks x.formats b.machine ++ w) none in
      let of : IsOfFolder b.left =
      subst IsOfFolder (sym (all ∙ append-nil (folder_tasks x.formats b.machine)))
      (asked_of_folder x.formats b.machine on) in
      record {
        steps = 0;
        stopped = rest_stopped x Volume way.start b z there (
          there.report,
          (asked_at_start x b way on, at_folder x b way of.calm of.folder, inl refl),
        );
      };
}
listing_failed x y z NoBank may store alike report asked = absurd may
listing_failed x y z Memory may store alike report asked = record {
  from = λ b rest way none left at.
      record {
        steps = 0;
        stopped = memory_at_rest x way.start b z (at_same x b y z store alike report at);
      };
}

-- what may come behind the pieces of the folder's work
abbrev pub IsAlone : Machine → List BootTask → Type 0
IsAlone start rest = IsTrue start.is_signalled × (rest ≡ [])

-- the files and the end behind the dropping of progress
abbrev pub behind_prune : Formats → List ListedFile → Tasks
behind_prune f files m = files_tasks f files m ++ clear_tasks m

everywhere : {X : Type 0} (P : X → Type 0) → ((x : X) → P x) → (xs : List X) → AllByRecursion P xs
everywhere P h [] = tt
everywhere P h (x ∷ xs) = (h x, everywhere P h xs)

behind_same : (x : Setting) (files : List ListedFile) (b : BootState) (k : ℕ)
    → KeepsFiles b.machine (after_steps x.formats k b).machine
    → behind_prune x.formats files b.machine
    ≡ behind_prune x.formats files (after_steps x.formats k b).machine
behind_same x files b k kept =
    ap (λ (w : List BootTask). w ++ Commits Clears ∷ [])
    (files_same x.formats files b.machine (after_steps x.formats k b).machine
    (steps_ground x.formats k b)
    (everywhere _ (λ a. (
      ap (λ (xs : List File). find (λ y. y.serial == a.serial) xs) kept.files,
      kept.spent a.serial,
    )) files))

-- the work on the folder begins with the dropping of progress
pub prune_first : {T : Type 0} (x : Setting)
    (files : List ListedFile) {y z : Situation} {r : Result T BootFault}
    → is_asked (variables_of y.store) ≡ true
    → files ≡ listed (in_order (λ a b. is_taken_before a.name b.name)
    y.bench.contents.rest.folder.files)
    → Goes x IsAny KeepsFiles prune_tasks nothing y r z
    → Goes x IsAlone KeepsFiles (folder_tasks x.formats) (behind_prune x.formats files) y r z
prune_first x files {y = y} asked are d =
    works_as x (λ b way at.
    let m = b.machine in
    let on : m.is_signalled ≡ true = sym (asked_is x b y at) ∙ asked in
    let there : listed (files_in_order m) ≡ files =
    sym (are ∙ ap (λ (v : FolderValue).
    listed (in_order (λ a b. is_taken_before a.name b.name) v.files)) at.outside.folder) in
    let work : flat_map (file_tasks x.formats m) (files_in_order m)
    ≡ files_tasks x.formats files m =
    listed_work x.formats m (apart x.formats x.board m (reached_now x b way)).files
    ∙ ap (λ (l : List ListedFile). files_tasks x.formats l m) there in
    asked_work x.formats m on
    ∙ append_assoc (prune_tasks m) (flat_map (file_tasks x.formats m) (files_in_order m))
    (clear_tasks m)
    ∙ ap (λ (w : List BootTask). prune_tasks m ++ (w ++ clear_tasks m)) work)
    (with_behind x (behind_prune x.formats files) (behind_prune x.formats files)
    (λ start m rest may. tt) (λ b k way kept. behind_same x files b k kept) d)

-- then the files, with the end behind them
pub files_then : {T : Type 0} (x : Setting) (files : List ListedFile) {y z : Situation}
    {r : Result T BootFault}
    → Goes x IsFolder KeepsNothing (files_tasks x.formats files) nothing y r z
    → Goes x IsAlone KeepsNothing (behind_prune x.formats files) clear_tasks y r z
files_then x files d =
    with_behind x clear_tasks clear_tasks
    (λ start m rest may. (may.0, ap (list_all is_folder_task) may.1)) (λ b k way kept. refl) d

-- a call from where only counts changed, where the files were asked for
pub folder_from : {T : Type 0} (x : Setting) {Keeps : Machine → Machine → Type 0}
    {work more : Tasks} {y also z : Situation} {r : Result T BootFault} → y.store ≡ also.store
    → y.bench.contents ≡ also.bench.contents → y.report ≡ also.report
    → is_asked (variables_of y.store) ≡ true → Goes x IsAlone Keeps work more y r z
    → Goes x IsNone Keeps work more also r z
folder_from x {y = y} store alike report asked d =
    starts_as x store alike report
    (goes_where x (λ (start : Machine). IsTrue start.is_signalled)
    (λ b way at. asked_at_start x b way (sym (asked_is x b y at) ∙ asked)) d)

pub keeps_none : (a b c : Machine) → KeepsFiles a b → KeepsNothing b c → KeepsNothing a c
keeps_none a b c p q = tt

pub nothing_kept : (a b c : Machine) → KeepsNothing a b → KeepsNothing b c → KeepsNothing a c
nothing_kept a b c p q = tt
