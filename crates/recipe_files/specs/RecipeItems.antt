-- The tables of items in a recipe's text. Their keys are tested in this order.
use Rattle.std.specs.Prelude.{◌≡◌, ◌≤◌, true, not, List, [], ◌∷◌, map, Option, None, Some}
use Rattle.std.specs.Prelude.{IsTrue}
use Rattle.std.specs.List.{AllByRecursion}
use Rattle.toml.specs.Data.{Data, Members, as_table}
use Rattle.cu_base.specs.Kept.{Kept}
use Rattle.cu_base.specs.Refusals.{Row, first_refusal}
use Rattle.recipe_files.specs.declared.faults.BadKind.TheVariants.{OutOfRange, WrongKind}
use Rattle.recipe_files.specs.declared.faults.Fault.{Fault}
use Rattle.recipe_files.specs.declared.keys.Key.TheVariants.{Item, Header, TypeId, Index, Instance}
use Rattle.recipe_files.specs.declared.keys.Key.TheVariants.{Auth, FwVersion, Lowest, Payload}
use Rattle.recipe_files.specs.declared.keys.Key.TheVariants.{Vendor, Monotonic, CertType, Cert, Dep}
use Rattle.bench_model.specs.declared.limits.TheConstants.{MAX_INSTANCE}
use Rattle.recipe_files.specs.declared.limits.TheConstants.{MAX_HEADER, MAX_MONOTONIC}
use Rattle.recipe_files.specs.declared.limits.TheConstants.{MIN_HEADER}
use Rattle.recipe_files.specs.declared.items.Target.{Target}
use Rattle.recipe_files.specs.declared.items.Firmware.{Firmware}
use Rattle.recipe_files.specs.declared.items.Signing.{Signing}
use Rattle.recipe_files.specs.Devices.{table_or_none}
use Rattle.recipe_files.specs.Faults.{fault_row, one_table}
use Rattle.recipe_files.specs.InputNames.{is_input_name}
use Rattle.recipe_files.specs.Recipes.{ItemValue, IsItem, keeps_header_rule, keeps_instance_rule}
use Rattle.recipe_files.specs.Tests.{key_rows}
use Rattle.recipe_files.specs.Values.{bytes_in, bytes_or_none, guid_in, has_key, number_in}
use Rattle.recipe_files.specs.Values.{number_or, text_in, truth_in}

-- the row of the rule of image headers of version 1 and 2
abbrev pub header_rows : Members → List (Row Fault)
header_rows table =
    let kept = keeps_header_rule (number_in Header table) (truth_in Auth table) (has_key Dep table)
    in fault_row (not kept) OutOfRange Header ∷ []

-- the fault of an image header of version 1 or 2
unfoldable pub header_test : Members → Option Fault
header_test table = first_refusal (header_rows table)

-- the row of the rule of image headers of version 1
abbrev pub instance_rows : Members → List (Row Fault)
instance_rows table =
    let kept = keeps_instance_rule (number_in Header table) (number_in Instance table) in
    fault_row (not kept) OutOfRange Instance ∷ []

-- the fault of the instance of an image header of version 1
unfoldable pub instance_test : Members → Option Fault
instance_test table = first_refusal (instance_rows table)

-- the tables of the keys that say for which device an item is
abbrev pub target_tables : Members → List (List (Row Fault))
target_tables table =
    key_rows Header table
    ∷ header_rows table
    ∷ key_rows TypeId table
    ∷ key_rows Index table
    ∷ key_rows Instance table
    ∷ instance_rows table
    ∷ []

-- the first fault of those keys
unfoldable pub target_test : Members → Option Fault
target_test table = first_refusal (one_table (target_tables table))

-- the tables of the keys that say what its firmware is
abbrev pub firmware_tables : Members → List (List (Row Fault))
firmware_tables table =
    key_rows Auth table
    ∷ key_rows FwVersion table
    ∷ key_rows Lowest table
    ∷ key_rows Payload table
    ∷ []

-- the first fault of those keys
unfoldable pub firmware_test : Members → Option Fault
firmware_test table = first_refusal (one_table (firmware_tables table))

-- the tables of the keys of its authentication data
abbrev pub signing_tables : Members → List (List (Row Fault))
signing_tables table =
    key_rows Monotonic table
    ∷ key_rows CertType table
    ∷ key_rows Cert table
    ∷ []

-- the first fault of those keys
unfoldable pub signing_test : Members → Option Fault
signing_test table = first_refusal (one_table (signing_tables table))

-- the tables of a table of an item
abbrev pub item_tables : Members → List (List (Row Fault))
item_tables table =
    one_table (target_tables table)
    ∷ one_table (firmware_tables table)
    ∷ key_rows Vendor table
    ∷ one_table (signing_tables table)
    ∷ key_rows Dep table
    ∷ []

-- the first fault of a table of an item
unfoldable pub item_test : Members → Option Fault
item_test table = first_refusal (one_table (item_tables table))

-- the item of a table
unfoldable pub item_in : Members → ItemValue
item_in table = record {
  header = number_in Header table;
  type_id = guid_in TypeId table;
  index = number_in Index table;
  instance = number_in Instance table;
  auth = truth_in Auth table;
  fw_version = number_in FwVersion table;
  lowest = number_in Lowest table;
  payload = text_in Payload table;
  vendor = bytes_in Vendor table;
  monotonic = number_or 0 Monotonic table;
  cert_type = guid_in CertType table;
  cert = bytes_in Cert table;
  dep = bytes_or_none Dep table;
}

-- the rows of an entry: it is a table, and that table's own
abbrev pub item_rows_or_kind : Option Members → List (Row Fault)
item_rows_or_kind None = fault_row true WrongKind Item ∷ []
item_rows_or_kind (Some table) = one_table (item_tables table)

-- the rows of an entry of the list of items
abbrev pub item_rows : Data → List (Row Fault)
item_rows d = item_rows_or_kind (as_table d)

-- the first fault of an entry
unfoldable pub item_entry_test : Data → Option Fault
item_entry_test d = first_refusal (item_rows d)

-- the item of an entry
abbrev pub item_of : Data → ItemValue
item_of d = item_in (table_or_none (as_table d))

-- the target of a table that passes those tests
pub record IsTarget (table : Members) (t : Target) : Type 0 where
  pub passes : target_test table ≡ None
  pub header : number_in Header table ≡ t.header
  pub type_id : guid_in TypeId table ≡ t.type_id
  pub index : number_in Index table ≡ t.index
  pub instance : number_in Instance table ≡ t.instance
  pub header_low : MIN_HEADER ≤ t.header
  pub header_high : t.header ≤ MAX_HEADER
  pub header_rule : IsTrue (keeps_header_rule t.header (truth_in Auth table) (has_key Dep table))
  pub instance_high : t.instance ≤ MAX_INSTANCE
  pub instance_rule : IsTrue (keeps_instance_rule t.header t.instance)

-- the firmware of a table that passes those tests
pub record IsFirmware (table : Members) (f : Firmware) : Type 0 where
  pub passes : firmware_test table ≡ None
  pub auth : truth_in Auth table ≡ f.auth
  pub fw_version : number_in FwVersion table ≡ f.fw_version
  pub lowest : number_in Lowest table ≡ f.lowest
  pub payload : text_in Payload table ≡ f.payload
  pub named : IsTrue (is_input_name f.payload)

-- the authentication data of a table that passes those tests
pub record IsSigning (table : Members) (s : Signing) : Type 0 where
  pub passes : signing_test table ≡ None
  pub monotonic : number_or 0 Monotonic table ≡ s.monotonic
  pub low : s.monotonic ≤ MAX_MONOTONIC
  pub cert_type : guid_in CertType table ≡ s.cert_type
  pub cert : bytes_in Cert table ≡ s.cert

-- the items are those of the entries, and each keeps its rules
pub record AreItemsOf (ds : List Data) (items : Kept ItemValue) : Type 0 where
  pub same : items.items ≡ map item_of ds
  pub each : AllByRecursion IsItem items.items
