-- Changes as they are read, without a copy.
use Rattle.std.specs.Prelude.{ℕ, List, [], ◌∷◌, fold, Option, Some, None}
use Rattle.std.specs.declared.cmp.Ordering.{Ordering}
use Rattle.std.specs.Ordering.{nat_cmp, ordering_then}
use Rattle.std.specs.Cmp.Lexicographic.{slice_cmp}
use Rattle.std.specs.BTreeMap.{insert_entry}
use Rattle.std.specs.Borrow.{Bor}
use Rattle.var_log.specs.declared.change.Change.{Change}
use Rattle.var_log.specs.declared.change.Change.TheVariants.{Set, Delete}
use Rattle.var_log.specs.declared.seen.Held.{Held}
use Rattle.var_log.specs.declared.seen.Key.{Key}
use Rattle.var_log.specs.declared.seen.Seen.{Seen}

-- the change of this variable that leaves this of it
abbrev pub change_with : Key → Option Held → Change
change_with key (Some held) =
    Set key.name.now (record { bytes = key.guid }) held.attributes held.data.now
change_with key None = Delete key.name.now (record { bytes = key.guid })

-- the change that was read
abbrev pub as_change : Seen → Change
as_change seen = change_with seen.key seen.left

-- the change that was read, and the bytes behind it
abbrev pub first_seen : (Seen × Bor (List ℕ)) → Change × List ℕ
first_seen pair = (as_change pair.0, pair.1.now)

-- keys are in the order of the GUID's bytes, and then of the name's
abbrev pub key_order : Key → Key → Ordering
key_order a b =
    ordering_then (slice_cmp nat_cmp a.guid b.guid) (slice_cmp nat_cmp a.name.now b.name.now)

-- the last change of each variable, once one more was made
abbrev pub put_last : List (Key × Option Held) → Seen → List (Key × Option Held)
put_last entries seen = insert_entry key_order entries seen.key seen.left

-- the last change of each variable, in the order of their keys
abbrev pub last_changes : List Seen → List (Key × Option Held)
last_changes = fold put_last []

-- the set of this variable, where something is left of it
abbrev pub set_with : Key → Option Held → List Change
set_with key (Some held) = change_with key (Some held) ∷ []
set_with key None = []

-- the set of a variable, where one is left
abbrev pub set_in : Key × Option Held → List Change
set_in entry = set_with entry.0 entry.1
