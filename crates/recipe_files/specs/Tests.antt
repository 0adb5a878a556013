-- The rows of a key: it is absent, its value is of another kind than the key takes, or it is
-- outside the limits of that kind.
use Rattle.std.specs.Prelude.{ℕ, ℤ, pos, negsuc, Bool, true, false, ◌&&◌, not, length, nat_le, List}
use Rattle.std.specs.Prelude.{[], ◌∷◌, Option, None, Some, is_ok, is_some}
use Rattle.std.specs.List.{flat_map}
use Rattle.toml.specs.Data.{Data, Members, as_array, as_bool, as_integer}
use Rattle.toml.specs.Data.{as_str, get_member}
use Rattle.cu_base.specs.Guids.{guid_of_text}
use Rattle.cu_base.specs.Refusals.{Row, first_refusal}
use Rattle.bench_model.specs.Names.{is_device_name}
use Rattle.recipe_files.specs.declared.faults.BadKind.{BadKind}
use Rattle.recipe_files.specs.declared.faults.BadKind.TheVariants.{MissingKey, WrongKind}
use Rattle.recipe_files.specs.declared.faults.BadKind.TheVariants.{OutOfRange, BadGuid}
use Rattle.recipe_files.specs.declared.faults.Fault.{Fault}
use Rattle.recipe_files.specs.declared.keys.Key.{Key}
use Rattle.recipe_files.specs.declared.keys.Key.TheVariants.{Digests}
use Rattle.recipe_files.specs.Digests.{digest_of_text}
use Rattle.recipe_files.specs.Faults.{fault_row}
use Rattle.recipe_files.specs.Hexes.{is_hex, shows_section}
use Rattle.recipe_files.specs.InputNames.{is_input_name}
use Rattle.recipe_files.specs.Keys.{Values, nothing, numbers, names, layouts, guids, hashes, lists}
use Rattle.recipe_files.specs.Keys.{inputs, hexes, sections, truths, optional}
use Rattle.recipe_files.specs.Keys.{key_name, values_of}
use Rattle.recipe_files.specs.Values.{entries, is_layout}

-- a key has to be there
abbrev pub is_required : Values → Bool
is_required nothing = true
is_required (numbers low high) = true
is_required names = true
is_required layouts = true
is_required guids = true
is_required hashes = true
is_required inputs = true
is_required hexes = true
is_required sections = true
is_required truths = true
is_required (lists most) = true
is_required (optional values) = false

-- a value is of the kind that is taken
abbrev pub is_of_kind : Values → Data → Bool
is_of_kind nothing d = true
is_of_kind (numbers low high) d = is_some (as_integer d)
is_of_kind names d = is_some (as_str d)
is_of_kind layouts d = is_some (as_str d)
is_of_kind guids d = is_some (as_str d)
is_of_kind hashes d = is_some (as_str d)
is_of_kind inputs d = is_some (as_str d)
is_of_kind hexes d = is_some (as_str d)
is_of_kind sections d = is_some (as_str d)
is_of_kind truths d = is_some (as_bool d)
is_of_kind (lists most) d = is_some (as_array d)
is_of_kind (optional values) d = is_of_kind values d

-- a number is within a range
abbrev pub is_within : ℕ → ℕ → ℤ → Bool
is_within low high (pos n) = nat_le low n && nat_le n high
is_within low high (negsuc n) = false

-- it is there and passes a test
abbrev pub passes : {T : Type 0} → (T → Bool) → Option T → Bool
passes test None = false
passes test (Some v) = test v

-- a value is within the limits of its kind
abbrev pub is_in_range : Values → Data → Bool
is_in_range nothing d = true
is_in_range (numbers low high) d = passes (is_within low high) (as_integer d)
is_in_range names d = passes is_device_name (as_str d)
is_in_range layouts d = passes is_layout (as_str d)
is_in_range guids d = passes (λ text. is_ok (guid_of_text text)) (as_str d)
is_in_range hashes d = passes (λ text. is_some (digest_of_text text)) (as_str d)
is_in_range inputs d = passes is_input_name (as_str d)
is_in_range hexes d = passes is_hex (as_str d)
is_in_range sections d = passes shows_section (as_str d)
is_in_range truths d = is_some (as_bool d)
is_in_range (lists most) d = passes (λ items. nat_le (length (entries items)) most) (as_array d)
is_in_range (optional values) d = is_in_range values d

-- what a value outside its limits is told as
abbrev pub range_kind : Values → BadKind
range_kind nothing = OutOfRange
range_kind (numbers low high) = OutOfRange
range_kind names = OutOfRange
range_kind layouts = OutOfRange
range_kind guids = BadGuid
range_kind hashes = OutOfRange
range_kind inputs = OutOfRange
range_kind hexes = OutOfRange
range_kind sections = OutOfRange
range_kind truths = OutOfRange
range_kind (lists most) = OutOfRange
range_kind (optional values) = range_kind values

-- the rows of a value that is there: its kind and its range
abbrev pub value_rows : Values → Key → Data → List (Row Fault)
value_rows values key d =
    fault_row (not (is_of_kind values d)) WrongKind key
    ∷ fault_row (not (is_in_range values d)) (range_kind values) key
    ∷ []

-- the rows of what is found at a key: its absence, or those of the value
abbrev pub found_rows : Values → Key → Option Data → List (Row Fault)
found_rows values key None = fault_row (is_required values) MissingKey key ∷ []
found_rows values key (Some d) = value_rows values key d

-- the rows of a key of a table
abbrev pub key_rows : Key → Members → List (Row Fault)
key_rows key table = found_rows (values_of key) key (get_member (key_name key) table)

-- the fault of a key by its own value
unfoldable pub key_test : Key → Members → Option Fault
key_test key table = first_refusal (key_rows key table)

-- the rows of an entry of the list of digests
abbrev pub digest_rows : Data → List (Row Fault)
digest_rows d = value_rows hashes Digests d

-- the fault of an entry as a digest
unfoldable pub digest_test : Data → Option Fault
digest_test d = first_refusal (digest_rows d)

-- the first fault of the entries of the list of digests
unfoldable pub digests_test : List Data → Option Fault
digests_test ds = first_refusal (flat_map digest_rows ds)
