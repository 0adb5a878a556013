-- The map of a store: for each variable that has a place the last change of it, a delete where the
-- variable is not there.
use Rattle.std.specs.Prelude.{◌≡◌, ℕ, ◌&&◌, ◌++◌, Bool, true, List, length, All, IsTrue, is_some}
use Rattle.std.specs.List.{AllByRecursion, filter, list_any}
use Rattle.std.specs.List.Sorted.{IsStrictlySortedBy}
use Rattle.std.specs.Map.{values_of}
use Rattle.std.specs.Cmp.Lexicographic.{slice_cmp}
use Rattle.std.specs.Ordering.{nat_cmp, ordering_then}
use Rattle.std.specs.declared.cmp.Ordering.{Ordering}
use Rattle.std.specs.Str.{bytes_eq}
use Rattle.cu_base.specs.declared.guid.Guid.{Guid}
use Rattle.var_log.specs.declared.change.Change.{Change}
use Rattle.var_log.specs.Changes.{Variables, after, guid_of, has_key, keeps_limits, name_of}
use Rattle.var_log.specs.Changes.{no_variables}
use Rattle.var_log.specs.Opens.{change_order, is_set}
use Rattle.var_store.specs.declared.names.VarName.{VarName}

-- the variables of places that are there, each as one set
abbrev pub sets_of : List Change → List Change
sets_of = filter is_set

-- an entry of the map stands under the bytes of its GUID and then of its name, within the limits
pub record IsKeyed {K : Type 0} (bytes : K → List ℕ) (e : K × Change) : Type 0 where
  pub key : bytes e.0 ≡ (guid_of e.1).bytes ++ name_of e.1
  pub sized : length (guid_of e.1).bytes ≡ 16
  pub limits : keeps_limits e.1 ≡ true

-- so stands each entry, and they are in order
pub record AreKept {K : Type 0} (bytes : K → List ℕ) (entries : List (K × Change)) : Type 0 where
  pub keyed : AllByRecursion (IsKeyed bytes) entries
  pub ordered : IsStrictlySortedBy change_order (values_of entries)

-- each of these changes is of a variable that has a place
abbrev pub HavePlaces : List Change → List Change → Type 0
HavePlaces changes places = All (λ c. IsTrue (has_key (guid_of c) (name_of c) places)) changes

-- no place is taken away
abbrev pub KeepsPlaces : List Change → List Change → Type 0
KeepsPlaces old new =
    (guid : Guid) (name : List ℕ) → has_key guid name old ≡ true → has_key guid name new ≡ true

-- the places are those of the same variables
abbrev pub HasSamePlaces : List Change → List Change → Type 0
HasSamePlaces old new =
    (guid : Guid) (name : List ℕ) → has_key guid name new ≡ has_key guid name old

-- these are the variables of places that are there, each as one set within its limits
pub record AreLive (places live : List Change) : Type 0 where
  pub are : live ≡ sets_of places
  pub same : after no_variables live ≡ after no_variables places
  pub limits : All (λ c. IsTrue (keeps_limits c)) live

-- names are in the order of the bytes of their GUID, and then of their own
abbrev pub name_order : VarName → VarName → Ordering
name_order a b =
    ordering_then (slice_cmp nat_cmp a.guid.bytes b.guid.bytes) (slice_cmp nat_cmp a.name b.name)

-- a name is this one
abbrev pub is_named : List ℕ → List ℕ → VarName → Bool
is_named guid name v = bytes_eq v.guid.bytes guid && bytes_eq v.name name

-- these are the names of exactly the variables that are there, each once, in order
pub record AreNames (variables : Variables) (names : List VarName) : Type 0 where
  pub ordered : IsStrictlySortedBy name_order names
  pub are : (guid name : List ℕ)
      → list_any (is_named guid name) names ≡ is_some (variables guid name)
