-- Files that are taken one after another.
use Rattle.std.proofs.Common.{◌≡◌, ◌≢◌, ℕ, zero, suc, ◌+◌, ◌-◌, ◌<◌, ◌==◌, List, [], ◌∷◌}
use Rattle.std.proofs.Common.{find, drop, get_or, length, refl, sym, ◌∙◌, ap, subst}
use Rattle.std.proofs.Common.{true}
use Rattle.std.proofs.Common.{arith, Result, add-one}
use Rattle.std.proofs.Common.{Some, drop-cons}
use Rattle.std.specs.Prelude.{option_map}
use Rattle.std.specs.List.{AllByRecursion, AllPairs}
use Rattle.std.proofs.lemmas.List.{get_or-drop, length-drop}
use Rattle.bench_model.specs.Bench.{BenchValue, HasFile}
use Rattle.bench_model.specs.Files.{File, FolderValue, HaveOtherSerials, ListedFile, has_serial}
use Rattle.bench_model.specs.Files.{without_serial}
use Rattle.reference_machine.specs.Boots.{BootState, after_steps}
use Rattle.reference_machine.specs.Machine.{Machine}
use Rattle.cap_boot.specs.declared.fault.BootFault.{BootFault}
use Rattle.cap_boot.specs.Going.{Goes, IsFolder, IsThenRemoved, nothing}
use Rattle.cap_boot.specs.Keeps.{KeepsFileThere, KeepsOthers}
use Rattle.cap_boot.specs.Situations.{IsAt, Situation}
use Rattle.cap_boot.specs.Stands.{Setting}
use Rattle.cap_boot.specs.Tasks.{HaveFiles, entry_of, file_unit_tasks, files_tasks}
use Rattle.cap_boot.specs.Tasks.{removal_tasks}
use Rattle.cap_boot.specs.Tasks.{serial_tasks}
use Rattle.cap_boot.proofs.Files.{all_of, file_split, files_same}
use Rattle.cap_boot.proofs.Listings.{told_later}
use Rattle.cap_boot.proofs.Onward.{steps_ground}
use Rattle.cap_boot.proofs.Works.{with_behind, works_as}

-- the file of the folder is the machine's
pub file_there : (x : Setting) (b : BootState) (y : Situation) (s : ℕ) → IsAt x b y
    → HasFile s y.bench → has_serial s b.machine.files ≡ true
file_there x b y s at there =
    subst (λ (f : FolderValue). has_serial s f.files ≡ true) at.outside.folder there

-- the units of a file, with its removal behind them
pub units_first : {T : Type 0} (x : Setting) (s : ℕ) {y z : Situation} {r : Result T BootFault}
    → HasFile s y.bench
    → Goes x IsThenRemoved (KeepsFileThere s) (file_unit_tasks x.formats s) nothing y r z
    → Goes x IsFolder (KeepsFileThere s) (serial_tasks x.formats s) (removal_tasks s) y r z
units_first x s {y = y} there d =
    works_as x (λ b way at. file_split x.formats s b.machine (file_there x b y s at there))
    (with_behind x (removal_tasks s) (removal_tasks s) (λ start m rest may. (may, refl))
    (λ b k way kept. refl) d)

pub taken_others : (s : ℕ) (a b c : Machine) → KeepsFileThere s a b → KeepsOthers s b c
    → KeepsOthers s a c
taken_others s a b c p q = record {
  files = λ t other. q.files t other
      ∙ ap (λ (xs : List File). find (λ x. x.serial == t) xs) p.files;
  spent = λ t other. q.spent t other ∙ p.spent t other;
}

-- ---- the later files of a listing

abbrev IsOther : ℕ → ListedFile → Type 0
IsOther s a = a.serial ≢ s

all_from : {X : Type 0} (P : X → Type 0) (ys : List X)
    → ((k : ℕ) (e : X) → k < length ys → P (get_or ys k e)) → AllByRecursion P ys
all_from P [] h = tt
all_from P (y ∷ ys) h =
    (h 0 y (omega arith), all_from P ys (λ k e lt. h (suc k) e (omega arith)))

-- they have other serials
pub later_others : (files : List ListedFile) (i : ℕ) (d : ListedFile)
    → AllPairs HaveOtherSerials files → i < length files
    → AllByRecursion (IsOther (get_or files i d).serial) (drop (i + 1) files)
later_others files i d pairs lt =
    all_from (IsOther (get_or files i d).serial) (drop (i + 1) files) (λ k e less.
    let at : get_or (drop (i + 1) files) k e ≡ get_or files (i + 1 + k) e =
    get_or-drop (i + 1) files k e in
    let long : length (drop (i + 1) files) ≡ length files - (i + 1) =
    length-drop (i + 1) files in
    let same : get_or files (i + 1 + k) e ≡ get_or files (i + 1 + k) d =
    any_default files (i + 1 + k) e d (omega arith) in
    subst (λ (a : ListedFile). a.serial ≢ (get_or files i d).serial) (sym (at ∙ same))
    (λ equal. pairs i (i + 1 + k) d (omega arith) (omega arith) (sym equal)))
  where
    any_default : (xs : List ListedFile) (n : ℕ) (e d : ListedFile) → n < length xs
        → get_or xs n e ≡ get_or xs n d
    any_default [] n e d lt = absurd (omega arith)
    any_default (x ∷ xs) zero e d lt = refl
    any_default (x ∷ xs) (suc n) e d lt = any_default xs n e d (omega arith)

-- the later files stay as a listing tells them once one was taken out
pub have_later : (s : ℕ) (files : List ListedFile) (old new : BenchValue)
    → new.contents.rest.folder ≡ without_serial old.contents.rest.folder s
    → AllByRecursion (IsOther s) files → HaveFiles files old → HaveFiles files new
have_later s [] old new is other have = tt
have_later s (a ∷ rest) old new is other have = (
  subst (λ (f : FolderValue).
      option_map entry_of (find (λ x. x.serial == a.serial) f.files) ≡ Some a) (sym is)
      (told_later s a old.contents.rest.folder.files other.0 have.0),
  have_later s rest old new is other.1 have.1,
)

-- what is left behind a file
pub have_tail : (files : List ListedFile) (i : ℕ) (d : ListedFile) (b : BenchValue)
    → i < length files → HaveFiles (drop i files) b → HaveFiles (drop (i + 1) files) b
have_tail files i d b lt have =
    let cut : drop i files ≡ get_or files i d ∷ drop (i + 1) files =
    rw (add-one, drop-cons files i d) in
    (subst (λ (xs : List ListedFile). HaveFiles xs b) cut have).1

-- a removal of a file by the same serial in other words
pub removal_of : {T : Type 0} (x : Setting) (n s : ℕ) {y z : Situation} {r : Result T BootFault}
    → n ≡ s → Goes x IsFolder (KeepsOthers n) (removal_tasks n) nothing y r z
    → Goes x IsFolder (KeepsOthers s) (removal_tasks s) nothing y r z
removal_of x n s {y = y} {z = z} {r = r} is d =
    subst (λ (k : ℕ). Goes x IsFolder (KeepsOthers k) (removal_tasks k) nothing y r z) is d

-- the later files, once one was taken, are the same work
pub later_same : (x : Setting) (files : List ListedFile) (i : ℕ) (d : ListedFile)
    → AllPairs HaveOtherSerials files → i < length files → (b : BootState) (k : ℕ)
    → KeepsOthers (get_or files i d).serial b.machine (after_steps x.formats k b).machine
    → files_tasks x.formats (drop (i + 1) files) b.machine
    ≡ files_tasks x.formats (drop (i + 1) files) (after_steps x.formats k b).machine
later_same x files i d pairs lt b k kept =
    files_same x.formats (drop (i + 1) files) b.machine (after_steps x.formats k b).machine
    (steps_ground x.formats k b)
    (all_of (IsOther (get_or files i d).serial) _
    (λ a other. (kept.files a.serial other, kept.spent a.serial other)) (drop (i + 1) files)
    (later_others files i d pairs lt))

-- the work on one file by its place in a listing
pub item_does : {T : Type 0} (x : Setting) (files : List ListedFile) (i : ℕ) (a : ListedFile)
    {y z : Situation} {r : Result T BootFault} → a ≡ get_or files i a
    → Goes x IsFolder (KeepsOthers a.serial) (serial_tasks x.formats a.serial) nothing y r z
    → Goes x IsFolder (KeepsOthers (get_or files i a).serial)
    (serial_tasks x.formats (get_or files i a).serial) nothing y r z
item_does x files i a {y = y} {z = z} {r = r} is d =
    subst (λ (b : ListedFile).
    Goes x IsFolder (KeepsOthers b.serial) (serial_tasks x.formats b.serial) nothing y r z) is d
