-- A platform of which files are taken out, or put in, is one still.
use Rattle.std.proofs.Common.{◌≡◌, ℕ, suc, ◌+◌, ◌≤◌, ◌<◌, ◌&&◌, ◌||◌, Bool, true, false, cond, not}
use Rattle.std.proofs.Common.{IsTrue, List, [], ◌∷◌, ◌++◌, filter, length, nat_le, refl, arith, ap}
use Rattle.std.proofs.Common.{◌∙◌, Option}
use Rattle.std.proofs.lemmas.Bool.Decides.{nat_tests}
use Rattle.std.specs.List.{list_any, list_all}
use Rattle.bench_model.specs.Boards.{BoardValue}
use Rattle.bench_model.specs.declared.outside_limits.TheConstants.{MAX_FILES}
use Rattle.reference_machine.specs.Events.{Outcome}
use Rattle.bench_model.specs.Files.{File}
use Rattle.reference_machine.specs.Machine.{first_moment}
use Rattle.reset_play.specs.Plays.{is_thin_on}
use Rattle.reference_machine.specs.Spent.{Element}
use Rattle.reference_machine.specs.TraceValues.{EntryValue}
use Rattle.reset_play.specs.Whole.{IsListPlatform}
use Rattle.reference_machine.proofs.Tests.{both_left, both_right}

filter_short : {X : Type 0} (keep : X → Bool) (xs : List X) → length (filter keep xs) ≤ length xs
filter_short keep [] = omega arith
filter_short keep (x ∷ xs) =
    let h : length (filter keep xs) ≤ length xs = filter_short keep xs in
    elim (keep x) as
    (λ b. length (cond b (x ∷ filter keep xs) (filter keep xs))
    ≤ suc (length xs)) [ true ↦ omega arith | false ↦ omega arith ]

filter_all : {X : Type 0} (p keep : X → Bool) (xs : List X) → IsTrue (list_all p xs)
    → IsTrue (list_all p (filter keep xs))
filter_all p keep [] all = refl
filter_all p keep (x ∷ xs) all =
    elim (keep x) as (λ b. IsTrue (list_all p (cond b (x ∷ filter keep xs) (filter keep xs)))) [
      | true ↦ both (p x) _ (both_left (p x) _ all) (filter_all p keep xs (both_right (p x) _ all))
      | false ↦ filter_all p keep xs (both_right (p x) _ all)
    ]
  where
    both : (a b : Bool) → a ≡ true → b ≡ true → IsTrue (a && b)
    both true b h k = k
    both false b h k = h

-- fewer files
pub fewer_files : (board : BoardValue) (keep : File → Bool) (files : List File)
    (done : List Element) (claimed : Option Element) → IsListPlatform board files done claimed
    → IsListPlatform board (filter keep files) done claimed
fewer_files board keep files done claimed p =
    let short : length (filter keep files) ≤ length files = filter_short keep files in
    let few : length files ≤ MAX_FILES = p.few in
    record {
      one = p.one;
      few = omega arith;
      thin = filter_all
          (λ (x : File). is_thin_on board x.bytes) keep files p.thin;
      closed_before =
          p.closed_before;
      open_last = p.open_last;
    }

all_more : {X : Type 0} (p : X → Bool) (xs : List X) (y : X) → IsTrue (list_all p xs) → IsTrue (p y)
    → IsTrue (list_all p (xs ++ y ∷ []))
all_more p [] y all h = both (p y) true h refl
  where
    both : (a b : Bool) → a ≡ true → b ≡ true → IsTrue (a && b)
    both true b h k = k
    both false b h k = h
all_more p (x ∷ xs) y all h =
    both (p x) _ (both_left (p x) _ all) (all_more p xs y (both_right (p x) _ all) h)
  where
    both : (a b : Bool) → a ≡ true → b ≡ true → IsTrue (a && b)
    both true b h k = k
    both false b h k = h

shorter_by : {X : Type 0} (gone : X → Bool) (xs : List X)
    → (list_any gone xs ≡ true → length (filter (λ x. not (gone x)) xs) + 1 ≤ length xs)
    → (x : X) (b : Bool) → (b || list_any gone xs) ≡ true
    → length (cond (not b) (x ∷ filter (λ x. not (gone x)) xs) (filter (λ x. not (gone x)) xs)) + 1
    ≤ suc (length xs)
shorter_by gone xs ih x true k = let h : length (filter (λ x. not (gone x)) xs) ≤ length xs =
    filter_short (λ x. not (gone x)) xs in omega arith
shorter_by gone xs ih x false k = let h : length (filter (λ x. not (gone x)) xs) + 1 ≤ length xs =
    ih k in omega arith

shorter : {X : Type 0} (gone : X → Bool) (xs : List X) → list_any gone xs ≡ true
    → length (filter (λ x. not (gone x)) xs) + 1 ≤ length xs
shorter gone [] h = cc
shorter gone (x ∷ xs) h = shorter_by gone xs (shorter gone xs) x (gone x) h

length_more : {X : Type 0} (xs : List X) (y : X) → length (xs ++ y ∷ []) ≡ length xs + 1
length_more [] y = refl
length_more (x ∷ xs) y = let h : length (xs ++ y ∷ []) ≡ length xs + 1 =
    length_more xs y in omega arith

-- a file in place of those that are gone, where there is room
pub one_file_more : (board : BoardValue) (gone : File → Bool) (files : List File) (file : File)
    (done : List Element) (claimed : Option Element) → IsListPlatform board files done claimed
    → IsTrue (is_thin_on board file.bytes)
    → (list_any gone files ≡ false → length files < MAX_FILES)
    → IsListPlatform board (filter (λ x. not (gone x)) files ++ file ∷ []) done claimed
one_file_more board gone files file done claimed p on room =
    record {
      one = p.one;
      few = by_any (list_any gone files) refl;
      thin = all_more (λ (x : File). is_thin_on board x.bytes)
          (filter (λ x. not (gone x)) files) file
          (filter_all (λ (x : File). is_thin_on board x.bytes) (λ x. not (gone x)) files p.thin) on;
      closed_before = p.closed_before;
      open_last = p.open_last;
    }
  where
    more : length (filter (λ x. not (gone x)) files ++ file ∷ [])
        ≡ length (filter (λ x. not (gone x)) files) + 1
    more = length_more (filter (λ x. not (gone x)) files) file

    short : length (filter (λ x. not (gone x)) files) ≤ length files
    short = filter_short (λ x. not (gone x)) files

    by_any : (b : Bool) → list_any gone files ≡ b
        → length (filter (λ x. not (gone x)) files ++ file ∷ []) ≤ MAX_FILES
    by_any true h =
        let less : length (filter (λ x. not (gone x)) files) + 1 ≤ length files =
        shorter gone files h in
        let few : length files ≤ MAX_FILES = p.few in
        let is : length (filter (λ x. not (gone x)) files ++ file ∷ [])
        ≡ length (filter (λ x. not (gone x)) files) + 1 = more in
        omega arith
    by_any false h =
        let few : length files < MAX_FILES = room h in
        let is : length (filter (λ x. not (gone x)) files ++ file ∷ [])
        ≡ length (filter (λ x. not (gone x)) files) + 1 = more in
        let less : length (filter (λ x. not (gone x)) files) ≤ length files = short in
        omega arith

above : (a n : ℕ) → nat_le a n ≡ false → n < a
above a n h = grind (arith, nat_tests)

no_room : (a b c d : Bool) → (a && not b || c || d) ≡ false → b ≡ false → a ≡ false
no_room true true c d h e = cc
no_room true false c d h e = cc
no_room false b c d h e = refl

-- a folder that is not full has room for a new name
pub room_left : (files : List File) (known heavy last : Bool)
    → (nat_le MAX_FILES (length files) && not known || heavy || last) ≡ false → known ≡ false
    → length files < MAX_FILES
room_left files known heavy last h e =
    above MAX_FILES (length files) (no_room (nat_le MAX_FILES (length files)) known heavy last h e)

-- an outcome of a platform, by its parts
abbrev pub outcome_of : EntryValue → BoardValue → List File → ℕ → Bool → List Element → List ℕ → ℕ
    → Outcome
outcome_of said board files last asked list in_progress batches = (
  said,
  record {
    board = board;
    now = first_moment;
    files = files;
    last_file = last;
    memory = [];
    staged = [];
    last_staged = 0;
    is_signalled = asked;
    list = list;
    in_progress = in_progress;
    batches = batches;
    failed = false;
  },
)

pub dropped_same : (said said' : EntryValue) (board : BoardValue) (files files' : List File)
    (last : ℕ) (asked : Bool) (list : List Element) (in_progress : List ℕ) (batches : ℕ)
    → said ≡ said' → files ≡ files'
    → outcome_of said board files last asked list in_progress batches
    ≡ outcome_of said' board files' last asked list in_progress batches
dropped_same said said' board files files' last asked list in_progress batches s f =
    ap (λ x. outcome_of x board files last asked list in_progress batches) s
    ∙ ap (λ x. outcome_of said' board x last asked list in_progress batches) f
