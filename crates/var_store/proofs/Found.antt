-- What the last changes of variables make of them.
use Rattle.std.proofs.Common.{◌≡◌, ℕ, zero, suc, List, [], ◌∷◌, length, refl}
use Rattle.std.proofs.Common.{sym, ap, ◌∙◌, arith, true, false, Bool, Option, None}
use Rattle.std.proofs.Common.{cond, ◌&&◌, All, IsTrue, ◌≤◌, ◌<◌, ◌||◌}
use Rattle.std.specs.declared.cmp.Ordering.{Ordering}
use Rattle.std.specs.declared.cmp.Ordering.TheVariants.{Less, Equal, Greater}
use Rattle.std.specs.Ordering.{is_eq, nat_cmp, ordering_then}
use Rattle.std.specs.Cmp.Lexicographic.{slice_cmp}
use Rattle.std.specs.Str.{bytes_eq}
use Rattle.std.specs.List.{AllByRecursion, list_any}
use Rattle.std.specs.List.Sorted.{IsStrictlySortedBy}
use Rattle.std.proofs.lemmas.Map.Text.{is_eq-slice_cmp}
use Rattle.std.proofs.lemmas.Map.Keys.{sorted_head, sorted_tail}
use Rattle.std.proofs.lemmas.Slice.Eq.{bytes_eq-Decides}
use Rattle.var_log.specs.declared.change.Change.{Change}
use Rattle.var_log.specs.declared.change.Change.TheVariants.{Set, Delete}
use Rattle.var_log.specs.Changes.{after, changed, guid_of, is_of, keeps_limits, left_by, name_of}
use Rattle.var_log.specs.Changes.{no_variables, Variable, Variables}
use Rattle.var_log.specs.Opens.{change_order}
use Rattle.var_log.proofs.Sizes.{name_small}
use Rattle.var_log.proofs.Spelled.{and_first, and_second}
use Rattle.var_store.specs.Places.{sets_of}

-- the variable that changes of distinct variables leave
abbrev pub found : List Change → List ℕ → List ℕ → Option Variable
found [] guid name = None
found (c ∷ cs) guid name = cond (is_of guid name c) (left_by c) (found cs guid name)

-- ---- one variable

pub bytes_same : (a b : List ℕ) → bytes_eq a b ≡ true → a ≡ b
bytes_same a b is = (bytes_eq-Decides a b).0 is

pub bytes_are : (a : List ℕ) → bytes_eq a a ≡ true
bytes_are a = (bytes_eq-Decides a a).1 refl

pub record IsOf (guid name : List ℕ) (c : Change) : Type 0 where
  pub guid_is : (guid_of c).bytes ≡ guid
  pub name_is : name_of c ≡ name

pub is_of_from : (guid name : List ℕ) (c : Change) → is_of guid name c ≡ true → IsOf guid name c
is_of_from guid name c is = record {
  guid_is = bytes_same (guid_of c).bytes guid
      (and_first (bytes_eq (guid_of c).bytes guid) (bytes_eq (name_of c) name) is);
  name_is = bytes_same (name_of c) name
      (and_second (bytes_eq (guid_of c).bytes guid) (bytes_eq (name_of c) name) is);
}

-- changes of one variable are alike of any
pub alike : (guid name : List ℕ) (a b : Change) → IsOf (guid_of b).bytes (name_of b) a
    → is_of guid name a ≡ is_of guid name b
alike guid name a b same =
    ap (λ (l : List ℕ). bytes_eq l guid && bytes_eq (name_of a) name) same.guid_is
    ∙ ap (λ (l : List ℕ). bytes_eq (guid_of b).bytes guid && bytes_eq l name) same.name_is

pub of_itself : (a b : Change) (guid name : List ℕ) → IsOf guid name a → IsOf guid name b
    → is_of (guid_of b).bytes (name_of b) a ≡ true
of_itself a b guid name p q =
    rw (p.guid_is, p.name_is, q.guid_is, q.name_is, bytes_are guid, bytes_are name) refl

eq_then : (a b : Ordering) → is_eq (ordering_then a b) ≡ (is_eq a && is_eq b)
eq_then Less b = refl
eq_then Equal b = refl
eq_then Greater b = refl

pub same_order : (a b : Change) → is_eq (change_order a b) ≡ is_of (guid_of b).bytes (name_of b) a
same_order a b =
    eq_then (slice_cmp nat_cmp (guid_of a).bytes (guid_of b).bytes)
    (slice_cmp nat_cmp (name_of a) (name_of b))
    ∙ rw (
      is_eq-slice_cmp (guid_of a).bytes (guid_of b).bytes,
      is_eq-slice_cmp (name_of a) (name_of b),
    ) refl

-- where one is of a variable, another that differs is not
pub not_both : (guid name : List ℕ) (a b : Change) (o : Ordering) → change_order a b ≡ o
    → is_eq o ≡ false → is_of guid name a ≡ true → (t : Bool) → is_of guid name b ≡ t → t ≡ false
not_both guid name a b o is none p true q =
    sym (of_itself a b guid name (is_of_from guid name a p) (is_of_from guid name b q))
    ∙ sym (same_order a b) ∙ ap is_eq is ∙ none
not_both guid name a b o is none p false q = refl

-- ---- none of a variable

abbrev pub NoneAt : List ℕ → List ℕ → List Change → Type 0
NoneAt guid name = AllByRecursion (λ (c : Change). is_of guid name c ≡ false)

pub below_none : (guid name : List ℕ) (c : Change) (cs : List Change) → is_of guid name c ≡ true
    → AllByRecursion (λ (d : Change). change_order c d ≡ Less) cs → NoneAt guid name cs
below_none guid name c [] is below = tt
below_none guid name c (d ∷ cs) is below =
    (not_both guid name c d Less below.0 refl is _ refl, below_none guid name c cs is below.1)

pub untouched : (vs : Variables) (guid name : List ℕ) (cs : List Change) → NoneAt guid name cs
    → after vs cs guid name ≡ vs guid name
untouched vs guid name [] none = refl
untouched vs guid name (c ∷ cs) none =
    untouched (changed vs c) guid name cs none.1
    ∙ ap (λ (t : Bool). cond t (left_by c) (vs guid name)) none.0

pub found_none : (guid name : List ℕ) (cs : List Change) → NoneAt guid name cs
    → found cs guid name ≡ None
found_none guid name [] none = refl
found_none guid name (c ∷ cs) none =
    ap (λ (t : Bool). cond t (left_by c) (found cs guid name)) none.0 ∙ found_none guid name cs none.1

-- ---- changes in order

after_case : (vs : Variables) (guid name : List ℕ) (c : Change) (cs : List Change) (t : Bool)
    → is_of guid name c ≡ t → vs guid name ≡ None
    → AllByRecursion (λ (d : Change). change_order c d ≡ Less) cs
    → ((ws : Variables) → ws guid name ≡ None → after ws cs guid name ≡ found cs guid name)
    → after (changed vs c) cs guid name ≡ cond t (left_by c) (found cs guid name)
after_case vs guid name c cs true is none below later =
    untouched (changed vs c) guid name cs (below_none guid name c cs is below)
    ∙ ap (λ (t : Bool). cond t (left_by c) (vs guid name)) is
after_case vs guid name c cs false is none below later =
    later (changed vs c) (ap (λ (t : Bool). cond t (left_by c) (vs guid name)) is ∙ none)

pub after_found : (vs : Variables) (guid name : List ℕ) (cs : List Change) → vs guid name ≡ None
    → IsStrictlySortedBy change_order cs → after vs cs guid name ≡ found cs guid name
after_found vs guid name [] none sorted = none
after_found vs guid name (c ∷ cs) none sorted =
    after_case vs guid name c cs (is_of guid name c) refl none (sorted_head change_order c cs sorted)
    (λ ws blank. after_found ws guid name cs blank (sorted_tail change_order c cs sorted))

-- ---- the sets among them

sets_none : (guid name : List ℕ) (cs : List Change) → NoneAt guid name cs
    → NoneAt guid name (sets_of cs)
sets_none guid name [] none = tt
sets_none guid name (Set n g a v ∷ cs) none = (none.0, sets_none guid name cs none.1)
sets_none guid name (Delete n g ∷ cs) none = sets_none guid name cs none.1

deleted_case : (guid name : List ℕ) (c : Change) (cs : List Change) (t : Bool) → is_of guid name c ≡ t
    → AllByRecursion (λ (d : Change). change_order c d ≡ Less) cs
    → found (sets_of cs) guid name ≡ found cs guid name
    → found (sets_of cs) guid name ≡ cond t None (found cs guid name)
deleted_case guid name c cs true is below later =
    found_none guid name (sets_of cs) (sets_none guid name cs (below_none guid name c cs is below))
deleted_case guid name c cs false is below later = later

pub sets_found : (guid name : List ℕ) (cs : List Change) → IsStrictlySortedBy change_order cs
    → found (sets_of cs) guid name ≡ found cs guid name
sets_found guid name [] sorted = refl
sets_found guid name (Set n g a v ∷ cs) sorted =
    ap (λ (x : Option Variable). cond (is_of guid name (Set n g a v)) (left_by (Set n g a v)) x)
    (sets_found guid name cs (sorted_tail change_order (Set n g a v) cs sorted))
sets_found guid name (Delete n g ∷ cs) sorted =
    deleted_case guid name (Delete n g) cs (is_of guid name (Delete n g)) refl
    (sorted_head change_order (Delete n g) cs sorted)
    (sets_found guid name cs (sorted_tail change_order (Delete n g) cs sorted))

sets_all : (P : Change → Type 0) (cs : List Change) → AllByRecursion P cs
    → AllByRecursion P (sets_of cs)
sets_all P [] each = tt
sets_all P (Set n g a v ∷ cs) each = (each.0, sets_all P cs each.1)
sets_all P (Delete n g ∷ cs) each = sets_all P cs each.1

sorted_one : (c : Change) (cs : List Change) → AllByRecursion (λ (d : Change). change_order c d ≡ Less) cs
    → IsStrictlySortedBy change_order cs → IsStrictlySortedBy change_order (c ∷ cs)
unfolding IsStrictlySortedBy
sorted_one c cs below sorted = (below, sorted)

none_sorted : IsStrictlySortedBy change_order []
unfolding IsStrictlySortedBy
none_sorted = tt

pub sets_sorted : (cs : List Change) → IsStrictlySortedBy change_order cs
    → IsStrictlySortedBy change_order (sets_of cs)
sets_sorted [] sorted = none_sorted
sets_sorted (Set n g a v ∷ cs) sorted =
    sorted_one (Set n g a v) (sets_of cs)
    (sets_all (λ (d : Change). change_order (Set n g a v) d ≡ Less) cs
    (sorted_head change_order (Set n g a v) cs sorted))
    (sets_sorted cs (sorted_tail change_order (Set n g a v) cs sorted))
sets_sorted (Delete n g ∷ cs) sorted = sets_sorted cs (sorted_tail change_order (Delete n g) cs sorted)

pub sets_are : (cs : List Change) → IsStrictlySortedBy change_order cs
    → after no_variables (sets_of cs) ≡ after no_variables cs
sets_are cs sorted = λ i guid name.
    (after_found no_variables guid name (sets_of cs) refl (sets_sorted cs sorted)
    ∙ sets_found guid name cs sorted
    ∙ sym (after_found no_variables guid name cs refl sorted)) i

all_from : (P : Change → Type 0) (cs : List Change) → AllByRecursion P cs → All P cs
all_from P [] each k d within = absurd (omega arith)
all_from P (c ∷ cs) each zero d within = each.0
all_from P (c ∷ cs) each (suc k) d within = all_from P cs each.1 k d (omega arith)

pub sets_keep : (cs : List Change) → AllByRecursion (λ (c : Change). keeps_limits c ≡ true) cs
    → All (λ c. IsTrue (keeps_limits c)) (sets_of cs)
sets_keep cs each =
    all_from (λ c. IsTrue (keeps_limits c)) (sets_of cs)
    (sets_all (λ (c : Change). keeps_limits c ≡ true) cs each)

-- ---- limits

pub name_kept : (c : Change) → keeps_limits c ≡ true → length (name_of c) ≤ 64
name_kept (Set n g a v) is = name_small n (and_first _ _ is)
name_kept (Delete n g) is = name_small n is

long_case : (guid name : List ℕ) (c : Change) → keeps_limits c ≡ true → 64 < length name → (t : Bool)
    → is_of guid name c ≡ t → t ≡ false
long_case guid name c keeps long true is =
    absurd (omega (arith, name_kept c keeps, ap (λ (l : List ℕ). length l) (is_of_from guid name c is).name_is))
long_case guid name c keeps long false is = refl

pub long_none : (guid name : List ℕ) (cs : List Change) → 64 < length name
    → AllByRecursion (λ (c : Change). keeps_limits c ≡ true) cs → NoneAt guid name cs
long_none guid name [] long each = tt
long_none guid name (c ∷ cs) long each =
    (long_case guid name c each.0 long _ refl, long_none guid name cs long each.1)

pub any_none : (guid name : List ℕ) (cs : List Change) → NoneAt guid name cs
    → list_any (is_of guid name) cs ≡ false
any_none guid name [] none = refl
any_none guid name (c ∷ cs) none =
    ap (λ (t : Bool). t || list_any (is_of guid name) cs) none.0 ∙ any_none guid name cs none.1
