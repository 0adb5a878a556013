-- The work on files by their serials, and when a boot has come to the folder.
use Rattle.std.proofs.Common.{◌≡◌, ℕ, ◌+◌, ◌==◌, ◌&&◌, ◌||◌, inl, inr, List, []}
use Rattle.std.proofs.Common.{◌∷◌, ◌++◌, flat_map, find, drop, refl, sym}
use Rattle.std.proofs.Common.{◌∙◌, ap, subst, Bool, true, false, cond, not, Option, None, Some}
use Rattle.std.proofs.Common.{IsTrue}
use Rattle.std.specs.List.{AllByRecursion, list_all}
use Rattle.bench_model.specs.Files.{File, ListedFile, has_serial, listed}
use Rattle.reference_machine.specs.Boots.{BootState, BootTask, file_delivery, file_tasks}
use Rattle.reference_machine.specs.Boots.{files_in_order, unit_tasks}
use Rattle.reference_machine.specs.Boots.BootBatch.{Settles, Unstages, Does, Prunes, Clears}
use Rattle.reference_machine.specs.Boots.BootTask.{Commits, Removes}
use Rattle.reference_machine.specs.Deliveries.{BootUnit, units}
use Rattle.reference_machine.specs.Formats.{Formats}
use Rattle.reference_machine.specs.Laws.{Distinct}
use Rattle.reference_machine.specs.Machine.{Machine}
use Rattle.reference_machine.specs.Names.{is_taken_before}
use Rattle.reference_machine.specs.Spent.{Element, is_open, spent}
use Rattle.reference_machine.specs.Stops.{is_folder_task, is_in_folder}
use Rattle.reference_machine.proofs.Filing.{same, same_of}
use Rattle.reference_machine.proofs.Going.{Going, boot_going}
use Rattle.reference_machine.proofs.Keys.{Numbered, rest_numbered, units_numbered}
use Rattle.reference_machine.proofs.Lists.{NoneOpen}
use Rattle.reference_machine.proofs.Ordered.{all_ordered}
use Rattle.reference_machine.proofs.Reached.{reached_sound}
use Rattle.cap_boot.specs.Situations.{IsUnderWay}
use Rattle.cap_boot.specs.Stands.{Setting}
use Rattle.cap_boot.specs.Tasks.{file_of, file_unit_tasks, files_tasks, found_tasks}
use Rattle.cap_boot.specs.Tasks.{found_unit_tasks, removal_tasks, serial_tasks}
use Rattle.cap_boot.proofs.Groups.{file_work}
use Rattle.cap_boot.proofs.Onward.{SameGround}

-- what was found is a file of the serial
pub record IsFound (s : ℕ) (o : Option File) : Type 0 where
  pub file : File
  pub is : o ≡ Some file
  pub serial : file.serial ≡ s

found_step : (s : ℕ) (x : File) (rest : Option File) (t any : Bool) → (x.serial == s) ≡ t
    → (t || any) ≡ true → (any ≡ true → IsFound s rest) → IsFound s (cond t (Some x) rest)
found_step s x rest true any is h next =
    record { file = x; is = refl; serial = same_of x.serial s is }
found_step s x rest false any is h next = next h

pub found_there : (s : ℕ) (xs : List File) → has_serial s xs ≡ true
    → IsFound s (find (λ x. x.serial == s) xs)
found_there s [] h = absurd (let e : false ≡ true = h in cc)
found_there s (x ∷ xs) h =
    found_step s x (find (λ y. y.serial == s) xs) (x.serial == s) (has_serial s xs) refl h
    (found_there s xs)

-- the work on a file is that on its units, and its removal
pub file_split : (f : Formats) (s : ℕ) (m : Machine) → has_serial s m.files ≡ true
    → serial_tasks f s m ≡ file_unit_tasks f s m ++ removal_tasks s m
file_split f s m there =
    let p = found_there s m.files there in
    ap (found_tasks f m) p.is
    ∙ ap (λ (n : ℕ). found_unit_tasks f m (Some p.file) ++ Removes n ∷ []) p.serial
    ∙ ap (λ (o : Option File). found_unit_tasks f m o ++ Removes s ∷ []) (sym p.is)

-- a file that was found by a serial has it
abbrev SerialIs : ℕ → Option File → Type 0
SerialIs s None = Unit {0}
SerialIs s (Some x) = x.serial ≡ s

serial_step : (s : ℕ) (x : File) (rest : Option File) (t : Bool) → (x.serial == s) ≡ t
    → SerialIs s rest → SerialIs s (cond t (Some x) rest)
serial_step s x rest true is next = same_of x.serial s is
serial_step s x rest false is next = next

serial_is : (s : ℕ) (xs : List File) → SerialIs s (find (λ x. x.serial == s) xs)
serial_is s [] = tt
serial_is s (x ∷ xs) =
    serial_step s x (find (λ y. y.serial == s) xs) (x.serial == s) refl (serial_is s xs)

found_same : (f : Formats) (s : ℕ) (a b : Machine) (o : Option File) → SameGround a b
    → spent b.list s ≡ spent a.list s → SerialIs s o → found_tasks f a o ≡ found_tasks f b o
found_same f s a b None g count is = refl
found_same f s a b (Some x) g count is =
    ap (λ (n : ℕ). file_work f x n a.board)
    (ap (spent a.list) is ∙ sym count ∙ ap (spent b.list) (sym is))
    ∙ ap (file_work f x (spent b.list x.serial)) (sym g.board)

-- the work on a file stays where the file and its spent units do
pub serial_same : (f : Formats) (s : ℕ) (a b : Machine) → SameGround a b
    → file_of b s ≡ file_of a s → spent b.list s ≡ spent a.list s
    → serial_tasks f s a ≡ serial_tasks f s b
serial_same f s a b g file count =
    found_same f s a b (file_of a s) g count (serial_is s a.files)
    ∙ ap (found_tasks f b) (sym file)

pub files_same : (f : Formats) (files : List ListedFile) (a b : Machine) → SameGround a b
    → AllByRecursion (λ x. (file_of b x.serial ≡ file_of a x.serial)
    × (spent b.list x.serial ≡ spent a.list x.serial)) files
    → files_tasks f files a ≡ files_tasks f files b
files_same f [] a b g all = refl
files_same f (x ∷ xs) a b g all =
    ap (λ (w : List BootTask). w ++ files_tasks f xs a)
    (serial_same f x.serial a b g all.0.0 all.0.1)
    ∙ ap (λ (w : List BootTask). serial_tasks f x.serial b ++ w) (files_same f xs a b g all.1)

pub all_of : {X : Type 0} (P Q : X → Type 0) → ((x : X) → P x → Q x) → (xs : List X)
    → AllByRecursion P xs → AllByRecursion Q xs
all_of P Q h [] all = tt
all_of P Q h (x ∷ xs) all = (h x all.0, all_of P Q h xs all.1)

-- ---- the order of the files

-- each file is found by its serial
found_self : (x : File) (rest : Option File) → cond (x.serial == x.serial) (Some x) rest ≡ Some x
found_self x rest = ap (λ (t : Bool). cond t (Some x) rest) (same x.serial)

abbrev FindsItself : List File → File → Type 0
FindsItself xs x = find (λ y. y.serial == x.serial) xs ≡ Some x

finds_later : (x : File) (xs ys : List File)
    → AllByRecursion (λ y. (x.serial == y.serial) ≡ false) ys
    → AllByRecursion (FindsItself xs) ys → AllByRecursion (FindsItself (x ∷ xs)) ys
finds_later x xs [] other all = tt
finds_later x xs (y ∷ ys) other all = (
  ap (λ (t : Bool). cond t (Some x) (find (λ z. z.serial == y.serial) xs)) other.0 ∙ all.0,
  finds_later x xs ys other.1 all.1,
)

finds_each : (xs : List File) → Distinct (λ a b. a.serial == b.serial) xs
    → AllByRecursion (FindsItself xs) xs
finds_each [] d = tt
finds_each (x ∷ xs) d = (
  found_self x (find (λ z. z.serial == x.serial) xs),
  finds_later x xs xs d.0 (finds_each xs d.1),
)

listed_by : (f : Formats) (m : Machine) (xs : List File) → AllByRecursion (FindsItself m.files) xs
    → flat_map (file_tasks f m) xs ≡ files_tasks f (listed xs) m
listed_by f m [] all = refl
listed_by f m (x ∷ xs) all =
    ap (λ (w : List BootTask). w ++ flat_map (file_tasks f m) xs)
    (sym (ap (found_tasks f m) all.0))
    ∙ ap (λ (w : List BootTask). serial_tasks f x.serial m ++ w) (listed_by f m xs all.1)

-- the work on all files in their order is that on a listing of them
pub listed_work : (f : Formats) (m : Machine) → Distinct (λ a b. a.serial == b.serial) m.files
    → flat_map (file_tasks f m) (files_in_order m) ≡ files_tasks f (listed (files_in_order m)) m
listed_work f m d =
    listed_by f m (files_in_order m)
    (all_ordered (FindsItself m.files) (λ a b. is_taken_before a.name b.name) m.files
    (finds_each m.files d))

-- ---- work of the folder

pub list_all_append : (p : BootTask → Bool) (xs ys : List BootTask) → list_all p xs ≡ true
    → list_all p ys ≡ true → list_all p (xs ++ ys) ≡ true
list_all_append p [] ys h k = k
list_all_append p (x ∷ xs) ys h k = step (p x) (list_all p xs) h (list_all_append p xs ys)
  where
    step : (a b : Bool) → (a && b) ≡ true
        → (b ≡ true → list_all p ys ≡ true → list_all p (xs ++ ys) ≡ true)
        → (a && list_all p (xs ++ ys)) ≡ true
    step true b h next = next h k
    step false b h next = absurd (let e : false ≡ true = h in cc)

units_folder : (s n : ℕ) (us : List BootUnit) → Numbered 1 s n us
    → list_all is_folder_task (unit_tasks us) ≡ true
units_folder s n [] h = refl
units_folder s n (u ∷ us) h =
    ap (λ (r : ℕ). (r == 1) && list_all is_folder_task (unit_tasks us)) h.0.route
    ∙ units_folder s (n + 1) us h.1

pub found_units_folder : (f : Formats) (m : Machine) (o : Option File)
    → list_all is_folder_task (found_unit_tasks f m o) ≡ true
found_units_folder f m None = refl
found_units_folder f m (Some x) =
    let us = units f (file_delivery x) m.board in
    let n = spent m.list x.serial in
    units_folder x.serial (0 + n) (drop n us)
    (rest_numbered 1 x.serial 0 n us (units_numbered f (file_delivery x) m.board))

pub found_folder : (f : Formats) (m : Machine) (o : Option File)
    → list_all is_folder_task (found_tasks f m o) ≡ true
found_folder f m None = refl
found_folder f m (Some x) =
    list_all_append is_folder_task (found_unit_tasks f m (Some x)) (Removes x.serial ∷ [])
    (found_units_folder f m (Some x)) refl

pub files_folder : (f : Formats) (m : Machine) (files : List ListedFile)
    → list_all is_folder_task (files_tasks f files m) ≡ true
files_folder f m [] = refl
files_folder f m (x ∷ xs) =
    list_all_append is_folder_task (serial_tasks f x.serial m) (files_tasks f xs m)
    (found_folder f m (file_of m x.serial)) (files_folder f m xs)

-- no settlement comes next
abbrev pub IsCalm : List BootTask → Type 0
IsCalm [] = Unit {0}
IsCalm (Commits (Settles kind end) ∷ rest) = ⊥
IsCalm (Commits (Unstages pair) ∷ rest) = Unit {0}
IsCalm (Commits (Does unit) ∷ rest) = Unit {0}
IsCalm (Commits Prunes ∷ rest) = Unit {0}
IsCalm (Commits Clears ∷ rest) = Unit {0}
IsCalm (Removes serial ∷ rest) = Unit {0}

calm_none : (m : Machine) (left : List BootTask) → Going m left → IsCalm left → NoneOpen m.list
calm_none m left (inl g) calm = g.0.none
calm_none m [] (inr g) calm = absurd g.1
calm_none m (Commits (Settles kind end) ∷ rest) (inr g) calm = absurd calm
calm_none m (Commits (Unstages pair) ∷ rest) (inr g) calm = absurd g.1
calm_none m (Commits (Does unit) ∷ rest) (inr g) calm = absurd g.1
calm_none m (Commits Prunes ∷ rest) (inr g) calm = absurd g.1
calm_none m (Commits Clears ∷ rest) (inr g) calm = absurd g.1
calm_none m (Removes serial ∷ rest) (inr g) calm = absurd g.1

-- where no settlement comes next, nothing is open
pub none_open : (x : Setting) (b : BootState) → IsUnderWay x b → IsCalm b.left
    → NoneOpen b.machine.list
none_open x b w calm =
    let going : Going b.machine b.left =
    subst (λ (c : BootState). Going c.machine c.left) (sym w.is)
    (boot_going x.formats w.start w.heal w.count w.is_held
    (reached_sound x.formats x.board w.start w.reached)) in
    calm_none b.machine b.left going calm

none_of_memory : (list : List Element) → NoneOpen list
    → list_all (λ e. not (is_open e) || e.key.ticket.route == 1) list ≡ true
none_of_memory [] none = refl
none_of_memory (e ∷ es) none =
    ap (λ (t : Bool). (not t || e.key.ticket.route == 1)
    && list_all (λ x. not (is_open x) || x.key.ticket.route == 1) es) none.0
    ∙ none_of_memory es none.1

-- the boot has come to the folder where work of the folder alone is left, and nothing is open
pub at_folder : (x : Setting) (b : BootState) → IsUnderWay x b → IsCalm b.left
    → list_all is_folder_task b.left ≡ true → IsTrue (is_in_folder b)
at_folder x b w calm folder =
    ap (λ (t : Bool). t && list_all (λ e. not (is_open e) || e.key.ticket.route == 1)
    b.machine.list) folder
    ∙ none_of_memory b.machine.list (none_open x b w calm)
