-- The names of the variables that are there.
use Rattle.std.proofs.Common.{◌≡◌, ℕ, List, [], ◌∷◌, ◌++◌, refl, sym, ap, ◌∙◌, true, false, Bool}
use Rattle.std.proofs.Common.{Option, Some, cond, map, ◌||◌}
use Rattle.std.specs.Prelude.{is_some}
use Rattle.std.specs.declared.cmp.Ordering.TheVariants.{Less}
use Rattle.std.specs.List.{AllByRecursion, list_any}
use Rattle.std.specs.List.Sorted.{IsStrictlySortedBy}
use Rattle.std.specs.Borrow.{Bor}
use Rattle.std.specs.Map.{values_of}
use Rattle.std.specs.Map.Iter.{deref_pair}
use Rattle.std.proofs.lemmas.List.{map_push}
use Rattle.std.proofs.lemmas.Map.Keys.{sorted_head, sorted_tail}
use Rattle.var_log.specs.declared.change.Change.{Change}
use Rattle.var_log.specs.declared.change.Change.TheVariants.{Set, Delete}
use Rattle.var_log.specs.Changes.{after, guid_of, is_of, name_of, no_variables, Variable}
use Rattle.var_log.specs.Opens.{change_order}
use Rattle.var_store.specs.declared.names.VarName.{VarName}
use Rattle.var_store.specs.Places.{AreNames, is_named, name_order, sets_of}
use Rattle.var_store.proofs.Found.{after_found, found, sets_found, sets_sorted}

-- the GUID and name of a change
abbrev pub name_pair : Change → VarName
name_pair c = record { guid = guid_of c; name = name_of c }

set_case : (guid name : List ℕ) (c : Change) (names : List VarName) (t : Bool) (x : Variable)
    (rest : Option Variable) → list_any (is_named guid name) names ≡ is_some rest
    → (t || list_any (is_named guid name) names) ≡ is_some (cond t (Some x) rest)
set_case guid name c names true x rest later = refl
set_case guid name c names false x rest later = later

any_found : (guid name : List ℕ) (cs : List Change)
    → list_any (is_named guid name) (map name_pair (sets_of cs)) ≡ is_some (found (sets_of cs) guid name)
any_found guid name [] = refl
any_found guid name (Set n g a v ∷ cs) =
    set_case guid name (Set n g a v) (map name_pair (sets_of cs)) (is_of guid name (Set n g a v))
    (record { attributes = a; bytes = v }) (found (sets_of cs) guid name) (any_found guid name cs)
any_found guid name (Delete n g ∷ cs) = any_found guid name cs

below_names : (c : Change) (cs : List Change) → AllByRecursion (λ (d : Change). change_order c d ≡ Less) cs
    → AllByRecursion (λ (d : VarName). name_order (name_pair c) d ≡ Less) (map name_pair cs)
below_names c [] below = tt
below_names c (d ∷ cs) below = (below.0, below_names c cs below.1)

first_name : (v : VarName) (vs : List VarName) → AllByRecursion (λ (d : VarName). name_order v d ≡ Less) vs
    → IsStrictlySortedBy name_order vs → IsStrictlySortedBy name_order (v ∷ vs)
unfolding IsStrictlySortedBy
first_name v vs below sorted = (below, sorted)

no_name : IsStrictlySortedBy name_order []
unfolding IsStrictlySortedBy
no_name = tt

names_sorted : (cs : List Change) → IsStrictlySortedBy change_order cs
    → IsStrictlySortedBy name_order (map name_pair cs)
names_sorted [] sorted = no_name
names_sorted (c ∷ cs) sorted =
    first_name (name_pair c) (map name_pair cs) (below_names c cs (sorted_head change_order c cs sorted))
    (names_sorted cs (sorted_tail change_order c cs sorted))

pub are_names : (cs : List Change) → IsStrictlySortedBy change_order cs
    → AreNames (after no_variables cs) (map name_pair (sets_of cs))
are_names cs sorted = record {
  ordered = names_sorted (sets_of cs) (sets_sorted cs sorted);
  are = λ guid name. any_found guid name cs
      ∙ ap is_some (sets_found guid name cs sorted
      ∙ sym (after_found no_variables guid name cs refl sorted));
}

-- ---- what a loop has gone over

pub sets_push : (cs : List Change) (c : Change) → sets_of (cs ++ c ∷ []) ≡ sets_of cs ++ sets_of (c ∷ [])
sets_push [] c = refl
sets_push (Set n g a v ∷ cs) c = ap (λ (l : List Change). Set n g a v ∷ l) (sets_push cs c)
sets_push (Delete n g ∷ cs) c = sets_push cs c

-- the changes that a loop over the entries has yielded
abbrev pub gone : {K : Type 0} → List (Bor K × Bor Change) → List Change
gone xs = values_of (map deref_pair xs)

pub gone_push : {K : Type 0} (xs : List (Bor K × Bor Change)) (x : Bor K × Bor Change)
    → gone (xs ++ x ∷ []) ≡ gone xs ++ x.1.now ∷ []
gone_push xs x =
    ap values_of (map_push deref_pair xs x)
    ∙ map_push (λ e. e.1) (map deref_pair xs) (deref_pair x)
