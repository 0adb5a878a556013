-- A recipe's text: the rows of its document in order, and the recipe that it says.
use Rattle.std.specs.Prelude.{ℕ, Bool, true, false, List, [], ◌∷◌, map, Option}
use Rattle.std.specs.List.{flat_map}
use Rattle.toml.specs.Data.{Data, Members}
use Rattle.cu_base.specs.Refusals.{Row, first_refusal}
use Rattle.capsule_grammar.specs.Refusals.{is_fmp_guid}
use Rattle.recipe_files.specs.declared.faults.Fault.{Fault}
use Rattle.recipe_files.specs.declared.keys.Key.TheVariants.{CapsuleGuid, Flags, Ext, Body, Drivers}
use Rattle.recipe_files.specs.declared.keys.Key.TheVariants.{Item}
use Rattle.recipe_files.specs.Documents.{Said, document, text_says}
use Rattle.recipe_files.specs.Faults.{one_table}
use Rattle.recipe_files.specs.Keys.{inputs}
use Rattle.recipe_files.specs.RecipeItems.{item_of, item_rows}
use Rattle.recipe_files.specs.Recipes.{BodyValue, RecipeValue, other, fmp}
use Rattle.recipe_files.specs.Tests.{key_rows, value_rows}
use Rattle.recipe_files.specs.Values.{bytes_in, entries_in, guid_in, number_in, text_in, text_of}

-- the rows of an entry of the list of drivers
abbrev pub driver_rows : Data → List (Row Fault)
driver_rows d = value_rows inputs Drivers d

-- the fault of an entry as a driver
unfoldable pub driver_test : Data → Option Fault
driver_test d = first_refusal (driver_rows d)

-- the first fault of the entries of the list of drivers
unfoldable pub drivers_test : List Data → Option Fault
drivers_test ds = first_refusal (flat_map driver_rows ds)

-- the first fault of the entries of the list of items
unfoldable pub items_test : List Data → Option Fault
items_test ds = first_refusal (flat_map item_rows ds)

-- the tables of the keys of an FMP capsule
abbrev pub fmp_tables : Members → List (List (Row Fault))
fmp_tables table =
    key_rows Drivers table
    ∷ flat_map driver_rows (entries_in Drivers table)
    ∷ key_rows Item table
    ∷ flat_map item_rows (entries_in Item table)
    ∷ []

-- the rows of the keys of the body: those of an FMP capsule exactly where this says so
abbrev pub body_rows : Bool → Members → List (Row Fault)
body_rows true table = one_table (fmp_tables table)
body_rows false table = key_rows Body table

-- the first fault of the keys of the body
unfoldable pub body_test : Bool → Members → Option Fault
body_test is_fmp table = first_refusal (body_rows is_fmp table)

-- the body of a document
abbrev pub body_in : Bool → Members → BodyValue
body_in true table = fmp (map text_of (entries_in Drivers table))
    (map item_of (entries_in Item table))
body_in false table = other (text_in Body table)

-- the GUID of a document is that of FMP capsules
abbrev pub is_fmp : Members → Bool
is_fmp table = is_fmp_guid (guid_in CapsuleGuid table).bytes

-- the tables of a document, in the order of the keys
abbrev pub recipe_tables : Members → List (List (Row Fault))
recipe_tables table =
    key_rows CapsuleGuid table
    ∷ key_rows Flags table
    ∷ key_rows Ext table
    ∷ body_rows (is_fmp table) table
    ∷ []

-- the first fault of a document
unfoldable pub recipe_test : Members → Option Fault
recipe_test table = first_refusal (one_table (recipe_tables table))

-- the recipe that a document without a fault says
unfoldable pub recipe_in : Members → RecipeValue
recipe_in table = record {
  guid = guid_in CapsuleGuid table;
  flags = number_in Flags table;
  ext = bytes_in Ext table;
  body = body_in (is_fmp table) table;
}

-- what a text says
abbrev pub recipe_text : List ℕ → Said RecipeValue
recipe_text bytes = text_says recipe_test recipe_in (document bytes)
