-- The values that a table holds at its keys.
use Rattle.std.specs.Prelude.{ℕ, ℤ, pos, negsuc, Bool, false, ◌||◌, List, [], ◌∷◌, codes}
use Rattle.std.specs.Prelude.{replicate, Option, is_some, option_map, unwrap_or}
use Rattle.std.specs.Prelude.{None, Some, map, Vec}
use denote.Ref.{Bor}
use Rattle.std.specs.declared.alloc.Global.{Global}
use Rattle.toml.specs.declared.value.Value.{Value}
use Rattle.toml.specs.View.{view}
use Rattle.std.specs.Option.{option_map_or}
use Rattle.std.specs.Result.{result_unwrap_or}
use Rattle.std.specs.Str.{bytes_eq}
use Rattle.toml.specs.Data.{Data, Items, no_items, item, Members, as_array, as_bool, as_integer}
use Rattle.toml.specs.Data.{as_str, get_member}
use Rattle.cu_base.specs.declared.guid.Guid.{Guid}
use Rattle.cu_base.specs.Guids.{guid_of_text}
use Rattle.recipe_files.specs.declared.keys.Key.{Key}
use Rattle.recipe_files.specs.Hexes.{bytes_shown}
use Rattle.recipe_files.specs.Keys.{key_name}

-- the members of a table
abbrev pub entries : Items → List Data
entries no_items = []
entries (item d ds) = d ∷ entries ds

-- a number that is not negative
abbrev pub natural : ℤ → ℕ
natural (pos n) = n
natural (negsuc n) = 0

-- what a value is as each kind, or nothing of it where it is of another kind
abbrev pub number_of : Data → ℕ
number_of d = natural (unwrap_or (as_integer d) (pos 0))

-- a value as a text
abbrev pub text_of : Data → List ℕ
text_of d = unwrap_or (as_str d) []

-- the GUID of zeros
abbrev pub no_guid : Guid
no_guid = record { bytes = replicate 16 0 }

-- a value as a GUID
abbrev pub guid_of : Data → Guid
guid_of d = result_unwrap_or (guid_of_text (text_of d)) no_guid

-- a value as a list
abbrev pub entries_of : Data → List Data
entries_of d = entries (unwrap_or (as_array d) no_items)

-- a text is the layout of devices with two banks
abbrev pub is_two : List ℕ → Bool
is_two text = bytes_eq text (codes "two")

-- a text is a layout of devices: `one` or `two`
abbrev pub is_layout : List ℕ → Bool
is_layout text = bytes_eq text (codes "one") || is_two text

-- the number at a key, or this one where the key is absent
unfoldable pub number_or : ℕ → Key → Members → ℕ
number_or default key table = option_map_or number_of (get_member (key_name key) table) default

-- the number at a key
unfoldable pub number_in : Key → Members → ℕ
number_in key table = option_map_or number_of (get_member (key_name key) table) 0

-- the text at a key
unfoldable pub text_in : Key → Members → List ℕ
text_in key table = option_map_or text_of (get_member (key_name key) table) []

-- the GUID at a key
unfoldable pub guid_in : Key → Members → Guid
guid_in key table = option_map_or guid_of (get_member (key_name key) table) no_guid

-- the entries of the list at a key
unfoldable pub entries_in : Key → Members → List Data
entries_in key table = option_map_or entries_of (get_member (key_name key) table) []

-- a value as a truth value
abbrev pub truth_of : Data → Bool
truth_of d = unwrap_or (as_bool d) false

-- a value as the bytes that its text shows
abbrev pub hex_of : Data → List ℕ
hex_of d = bytes_shown (text_of d)

-- a key is there
abbrev pub has_key : Key → Members → Bool
has_key key table = is_some (get_member (key_name key) table)

-- the truth value at a key
unfoldable pub truth_in : Key → Members → Bool
truth_in key table = option_map_or truth_of (get_member (key_name key) table) false

-- the bytes that the text at a key shows
unfoldable pub bytes_in : Key → Members → List ℕ
bytes_in key table = option_map_or hex_of (get_member (key_name key) table) []

-- the same, or None where the key is absent
unfoldable pub bytes_or_none : Key → Members → Option (List ℕ)
bytes_or_none key table = option_map hex_of (get_member (key_name key) table)

-- the entries of a list, if there is one
abbrev pub entries_seen : Option (Bor (Vec Value Global)) → List Data
entries_seen None = []
entries_seen (Some list) = map view list.now.items
