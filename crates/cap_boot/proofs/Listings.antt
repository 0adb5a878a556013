-- The files of the folder, as a listing tells them.
use Rattle.std.proofs.Common.{◌≡◌, ◌≢◌, ◌==◌, ◌||◌, ◌∙◌, ◌∷◌, [], ℕ, suc, List, None, Option, Some}
use Rattle.std.proofs.Common.{ap}
use Rattle.std.proofs.Common.{Bool, arith, cond, false, filter, find, length, not, refl, subst, sym}
use Rattle.std.proofs.Common.{true}
use Rattle.std.proofs.Common.{◌<◌}
use Rattle.std.proofs.lemmas.List.{length-map}
use Rattle.std.specs.List.{AllByRecursion, AllPairs}
use Rattle.std.specs.Prelude.{get_or, option_map, unwrap_or}
use Rattle.bench_model.specs.Bench.{BenchValue, HasFile}
use Rattle.bench_model.specs.Files.{File, FolderValue, HaveOtherSerials, ListedFile, file_bytes}
use Rattle.bench_model.specs.Files.{has_serial, listed}
use Rattle.reference_machine.specs.Order.{in_order, inserted}
use Rattle.reference_machine.proofs.Apart.{all_both}
use Rattle.reference_machine.proofs.Filing.{same_of}
use Rattle.cap_boot.specs.Tasks.{HaveFiles, TellsFile, entry_of}
use Rattle.cap_boot.proofs.Files.{IsFound, found_there}

-- ---- a file that a listing tells

-- what was found is a file that is told so
pub record IsTold (a : ListedFile) (o : Option File) : Type 0 where
  pub file : File
  pub is : o ≡ Some file
  pub entry : entry_of file ≡ a

pub told_file : (a : ListedFile) (o : Option File) → option_map entry_of o ≡ Some a → IsTold a o
told_file a None e = absurd cc
told_file a (Some x) e = record {
  file = x;
  is = refl;
  entry = ap (λ (o : Option ListedFile). unwrap_or o (entry_of x)) e;
}

found_is_there : (s : ℕ) (xs : List File) (a : ListedFile)
    → option_map entry_of (find (λ x. x.serial == s) xs) ≡ Some a → has_serial s xs ≡ true
found_is_there s [] a e = absurd cc
found_is_there s (x ∷ xs) a e = by_test (x.serial == s) e (found_is_there s xs a)
  where
    by_test : (t : Bool)
        → option_map entry_of (cond t (Some x) (find (λ y. y.serial == s) xs)) ≡ Some a
        → (option_map entry_of (find (λ y. y.serial == s) xs) ≡ Some a → has_serial s xs ≡ true)
        → (t || has_serial s xs) ≡ true
    by_test true e later = refl
    by_test false e later = later e

pub told_there : (a : ListedFile) (b : BenchValue) → TellsFile a b → HasFile a.serial b
told_there a b told = found_is_there a.serial b.contents.rest.folder.files a told

-- it is still there in the same folder
pub told_in : (a : ListedFile) (n : ℕ) (b c : BenchValue) → TellsFile a b → n ≡ a.serial
    → c.contents.rest.folder ≡ b.contents.rest.folder → HasFile n c
told_in a n b c told is same =
    subst (λ (k : ℕ). has_serial k c.contents.rest.folder.files ≡ true) (sym is)
    (subst (λ (f : FolderValue). has_serial a.serial f.files ≡ true) (sym same)
    (told_there a b told))

-- it has as many bytes as it is told to have
pub told_size : (a : ListedFile) (b : BenchValue) → TellsFile a b
    → length (file_bytes a.serial b.contents.rest.folder.files) ≡ a.size
told_size a b told =
    let o = find (λ (x : File). x.serial == a.serial) b.contents.rest.folder.files in
    let p = told_file a o told in
    ap (λ (q : Option File). length (unwrap_or (option_map (λ x. x.bytes) q) [])) p.is
    ∙ ap (λ (e : ListedFile). e.size) p.entry

-- ---- once another file was taken out

others_step : (s t : ℕ) (x : File) (rest kept : List File) (gone here : Bool)
    → (x.serial == s) ≡ gone → (x.serial == t) ≡ here → t ≢ s
    → find (λ y. y.serial == t) kept ≡ find (λ y. y.serial == t) rest
    → find (λ y. y.serial == t) (cond (not gone) (x ∷ kept) kept)
    ≡ cond here (Some x) (find (λ y. y.serial == t) rest)
others_step s t x rest kept true true g h other is =
    absurd (other (sym (same_of x.serial t h) ∙ same_of x.serial s g))
others_step s t x rest kept true false g h other is = is
others_step s t x rest kept false here g h other is =
    ap (λ (b : Bool). cond b (Some x) (find (λ y. y.serial == t) kept)) h
    ∙ ap (λ (o : Option File). cond here (Some x) o) is

find_others : (s t : ℕ) (xs : List File) → t ≢ s
    → find (λ x. x.serial == t) (filter (λ x. not (x.serial == s)) xs)
    ≡ find (λ x. x.serial == t) xs
find_others s t [] other = refl
find_others s t (x ∷ xs) other =
    others_step s t x xs (filter (λ y. not (y.serial == s)) xs) (x.serial == s) (x.serial == t) refl
    refl other (find_others s t xs other)

pub told_later : (s : ℕ) (a : ListedFile) (xs : List File) → a.serial ≢ s
    → option_map entry_of (find (λ x. x.serial == a.serial) xs) ≡ Some a
    → option_map entry_of
    (find (λ x. x.serial == a.serial) (filter (λ x. not (x.serial == s)) xs)) ≡ Some a
told_later s a xs other told = ap (option_map entry_of) (find_others s a.serial xs other) ∙ told

-- ---- a listing of the folder

all_inserted : (P : File → Type 0) (before : File → File → Bool) (x : File) (ys : List File)
    → AllByRecursion P (inserted before x ys) → P x × AllByRecursion P ys
all_inserted P before x [] all = (all.0, tt)
all_inserted P before x (y ∷ ys) all = by_test (before y x) all (all_inserted P before x ys)
  where
    by_test : (t : Bool) → AllByRecursion P (cond t (y ∷ inserted before x ys) (x ∷ y ∷ ys))
        → (AllByRecursion P (inserted before x ys) → P x × AllByRecursion P ys)
        → P x × (P y × AllByRecursion P ys)
    by_test true all later = let r = later all.1 in (r.0, (all.0, r.1))
    by_test false all later = (all.0, all.1)

-- what holds of all in their order holds of all
all_back : (P : File → Type 0) (before : File → File → Bool) (xs : List File)
    → AllByRecursion P (in_order before xs) → AllByRecursion P xs
all_back P before [] all = tt
all_back P before (x ∷ xs) all =
    let r = all_inserted P before x (in_order before xs) all in
    (r.0, all_back P before xs r.1)

found_step : (P : File → Type 0) (x z : File) (rest : Option File) (t : Bool)
    → cond t (Some x) rest ≡ Some z → P x → (rest ≡ Some z → P z) → P z
found_step P x z rest true is here next =
    subst P (ap (λ (o : Option File). unwrap_or o x) is) here
found_step P x z rest false is here next = next is

-- what holds of all holds of what was found
pub all_found : (P : File → Type 0) (s : ℕ) (xs : List File) (z : File) → AllByRecursion P xs
    → find (λ x. x.serial == s) xs ≡ Some z → P z
all_found P s [] z all is = absurd cc
all_found P s (x ∷ xs) z all is =
    found_step P x z (find (λ y. y.serial == s) xs) (x.serial == s) is all.0
    (all_found P s xs z all.1)

-- files of one serial are told alike
abbrev AreAlike : File → File → Type 0
AreAlike y z = z.serial ≡ y.serial → entry_of z ≡ entry_of y

others_told : (y : File) (ys : List File)
    → ((k : ℕ) (e : ListedFile) → k < length ys → y.serial ≢ (get_or (listed ys) k e).serial)
    → AllByRecursion (λ z. y.serial ≢ z.serial) ys
others_told y [] h = tt
others_told y (z ∷ zs) h =
    (h 0 (entry_of z) (omega arith), others_told y zs (λ k e lt. h (suc k) e (omega arith)))

alike_head : (y : File) (ys : List File) → AllByRecursion (λ z. y.serial ≢ z.serial) ys
    → AllByRecursion (AreAlike y) ys
alike_head y [] others = tt
alike_head y (z ∷ zs) others =
    ((λ is. absurd (others.0 (sym is))), alike_head y zs others.1)

alike_tail : (y : File) (ys zs : List File) → AllByRecursion (λ z. y.serial ≢ z.serial) zs
    → AllByRecursion (λ z. AllByRecursion (AreAlike z) ys) zs
    → AllByRecursion (λ z. AllByRecursion (AreAlike z) (y ∷ ys)) zs
alike_tail y ys [] others all = tt
alike_tail y ys (z ∷ zs) others all =
    (((λ is. absurd (others.0 is)), all.0), alike_tail y ys zs others.1 all.1)

alike_each : (ys : List File) → AllPairs HaveOtherSerials (listed ys)
    → AllByRecursion (λ y. AllByRecursion (AreAlike y) ys) ys
alike_each [] pairs = tt
alike_each (y ∷ ys) pairs =
    let long : length (listed ys) ≡ length ys = length-map ys entry_of in
    let others : AllByRecursion (λ z. y.serial ≢ z.serial) ys =
    others_told y ys (λ k e lt. pairs 0 (suc k) e (omega arith) (omega arith)) in
    let later : AllPairs HaveOtherSerials (listed ys) =
    λ i j d lt less. pairs (suc i) (suc j) d (omega arith) (omega arith) in
    (((λ is. refl), alike_head y ys others), alike_tail y ys ys others (alike_each ys later))

have_listed : (b : BenchValue) (ys : List File)
    → AllByRecursion (λ y. TellsFile (entry_of y) b) ys → HaveFiles (listed ys) b
have_listed b [] all = tt
have_listed b (y ∷ ys) all = (all.0, have_listed b ys all.1)

-- the files of a listing are as it tells them
pub have_told : (b : BenchValue) (before : File → File → Bool) (files : List ListedFile)
    → files ≡ listed (in_order before b.contents.rest.folder.files)
    → AllPairs HaveOtherSerials files
    → AllByRecursion (λ y. has_serial y.serial b.contents.rest.folder.files ≡ true)
    (in_order before b.contents.rest.folder.files) → HaveFiles files b
have_told b before files are pairs there =
    let xs : List File = b.contents.rest.folder.files in
    let ys : List File = in_order before xs in
    subst (λ (l : List ListedFile). HaveFiles l b) (sym are)
    (have_listed b ys (all_both (λ (y : File). has_serial y.serial xs ≡ true)
    (λ (y : File). AllByRecursion (AreAlike y) ys) (λ (y : File). TellsFile (entry_of y) b)
    (λ y here alike.
    let p : IsFound y.serial (find (λ x. x.serial == y.serial) xs) =
    found_there y.serial xs here in
    ap (option_map entry_of) p.is
    ∙ ap (λ (e : ListedFile). Some e)
    (all_found (AreAlike y) y.serial xs p.file (all_back (AreAlike y) before xs alike) p.is
    p.serial))
    ys there
    (alike_each ys (subst (λ (l : List ListedFile). AllPairs HaveOtherSerials l) are pairs))))
