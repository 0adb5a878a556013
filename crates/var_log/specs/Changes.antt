-- Variables by GUID and name, and what changes make of them (own format).
use Rattle.std.specs.Prelude.{◌≢◌, ℕ, ◌^◌, ◌==◌, ◌&&◌, Bool, true, List, length, fold}
use Rattle.std.specs.Prelude.{Option, Some, None, if◌then◌else◌, nat_le, nat_lt, AllPairs}
use Rattle.std.specs.List.{list_all, list_any}
use Rattle.std.specs.Str.{bytes_eq}
use Rattle.cu_base.specs.declared.guid.Guid.{Guid}
use Rattle.var_log.specs.declared.change.Change.{Change}
use Rattle.var_log.specs.declared.change.Change.TheVariants.{Set, Delete}
use Rattle.var_log.specs.declared.limits.TheConstants.{MAX_NAME, MAX_DATA}

-- what a variable holds
pub record Variable : Type 0 where
  pub attributes : ℕ
  pub bytes : List ℕ

-- the variables that are there, by the bytes of their GUID and then their name
abbrev pub Variables : Type 0
Variables = List ℕ → List ℕ → Option Variable

-- no variable is there
abbrev pub no_variables : Variables
no_variables = λ guid name. None

-- the GUID that a change is of
abbrev pub guid_of : Change → Guid
guid_of (Set name guid attributes value) = guid
guid_of (Delete name guid) = guid

-- the name that a change is of
abbrev pub name_of : Change → List ℕ
name_of (Set name guid attributes value) = name
name_of (Delete name guid) = name

-- the variable that a change leaves at its GUID and name
abbrev pub left_by : Change → Option Variable
left_by (Set name guid attributes value) = Some (record { attributes = attributes; bytes = value })
left_by (Delete name guid) = None

-- a change is of this GUID and name
abbrev pub is_of : List ℕ → List ℕ → Change → Bool
is_of guid name c = bytes_eq (guid_of c).bytes guid && bytes_eq (name_of c) name

-- the variables once a change was made; a delete of a variable that is not there changes nothing
abbrev pub changed : Variables → Change → Variables
changed variables c = λ guid name. if is_of guid name c then left_by c else variables guid name

-- the variables once changes were made, in order
abbrev pub after : Variables → List Change → Variables
after = fold changed

-- a byte of a name: ASCII without space and control characters
abbrev pub is_name_byte : ℕ → Bool
is_name_byte b = nat_le 0x21 b && nat_le b 0x7E

-- a name is 1 to 64 bytes of 0x21 to 0x7E
abbrev pub is_name : List ℕ → Bool
is_name name = nat_le 1 (length name) && nat_le (length name) MAX_NAME
    && list_all is_name_byte name

-- name and data of a change are within the limits
abbrev pub keeps_limits : Change → Bool
keeps_limits (Set name guid attributes value) = is_name name && nat_le (length value) MAX_DATA
keeps_limits (Delete name guid) = is_name name

-- two changes are of different variables
abbrev pub HaveOtherKeys : Change → Change → Type 0
HaveOtherKeys a b = is_of (guid_of b).bytes (name_of b) a ≢ true

-- no two changes are of one variable
pub record AreChanges (changes : List Change) : Type 0 where
  pub keys : AllPairs HaveOtherKeys changes

-- a change is of this GUID and name
abbrev pub has_key : Guid → List ℕ → List Change → Bool
has_key guid name changes = list_any (is_of guid.bytes name) changes

-- the fields of a change have their sizes: a GUID 16 bytes, and attributes are below 2^32
abbrev pub has_sizes : Change → Bool
has_sizes (Set name guid attributes value) = length guid.bytes == 16 && nat_lt attributes (2 ^ 32)
has_sizes (Delete name guid) = length guid.bytes == 16

-- a change that a record may hold
abbrev pub is_change : Change → Bool
is_change c = keeps_limits c && has_sizes c
