-- The tables of devices in a board's text. Their keys are tested in this order, and a name or a
-- triple that an earlier table has is told at the key of the later one.
use Rattle.std.specs.Prelude.{◌≡◌, ℕ, true, ◌-◌, ◌≤◌, nat_lt, List, [], ◌∷◌, ◌++◌, map, Option}
use Rattle.std.specs.Prelude.{None, Some}
use Rattle.toml.specs.Data.{Data, Members, no_members, as_table}
use Rattle.cu_base.specs.Kept.{Kept}
use Rattle.cu_base.specs.Refusals.{Row, first_refusal}
use Rattle.bench_model.specs.Devices.{DeviceValue, capacity_of, has_name, has_triple}
use Rattle.recipe_files.specs.declared.faults.BadKind.TheVariants.{OutOfRange, Repeated, WrongKind}
use Rattle.recipe_files.specs.declared.faults.Fault.{Fault}
use Rattle.recipe_files.specs.declared.keys.Key.TheVariants.{Device, Name, TypeId, Index, Instance}
use Rattle.recipe_files.specs.declared.keys.Key.TheVariants.{FwType, Capacity, Version, Floor}
use Rattle.recipe_files.specs.declared.keys.Key.TheVariants.{Flags}
use Rattle.recipe_files.specs.declared.devices.Factory.{Factory}
use Rattle.bench_model.specs.declared.limits.TheConstants.{MAX_CAPACITY, MAX_FW_TYPE, MIN_CAPACITY}
use Rattle.recipe_files.specs.Faults.{fault_row, one_table}
use Rattle.recipe_files.specs.Tests.{key_rows}
use Rattle.recipe_files.specs.Values.{number_in, text_in, guid_in}

-- the row of a capacity where so much is left on the board
abbrev pub room_rows : ℕ → ℕ → List (Row Fault)
room_rows room capacity = fault_row (nat_lt room capacity) OutOfRange Capacity ∷ []

-- the fault of a capacity where so much is left on the board
unfoldable pub room_test : ℕ → ℕ → Option Fault
room_test room capacity = first_refusal (room_rows room capacity)

-- the tables of the keys behind name and triple, where so much capacity is left on the board
abbrev pub factory_tables : ℕ → Members → List (List (Row Fault))
factory_tables room table =
    key_rows FwType table
    ∷ key_rows Capacity table
    ∷ room_rows room (number_in Capacity table)
    ∷ key_rows Version table
    ∷ key_rows Floor table
    ∷ key_rows Flags table
    ∷ []

-- the first fault of those keys
unfoldable pub factory_test : ℕ → Members → Option Fault
factory_test room table = first_refusal (one_table (factory_tables room table))

-- the factory numbers of a table that passes those tests
pub record IsFactory (room : ℕ) (table : Members) (f : Factory) : Type 0 where
  pub passes : factory_test room table ≡ None
  pub fw_type : number_in FwType table ≡ f.fw_type
  pub capacity : number_in Capacity table ≡ f.capacity
  pub version : number_in Version table ≡ f.version
  pub floor : number_in Floor table ≡ f.floor
  pub flags : number_in Flags table ≡ f.flags
  pub known_type : f.fw_type ≤ MAX_FW_TYPE
  pub some_capacity : MIN_CAPACITY ≤ f.capacity
  pub fits : f.capacity ≤ MAX_CAPACITY
  pub within : f.capacity ≤ room

-- the tables of a table of a device behind these devices, where so much capacity is left
abbrev pub device_tables : ℕ → List DeviceValue → Members → List (List (Row Fault))
device_tables room earlier table =
    key_rows Name table
    ∷ (fault_row (has_name (text_in Name table) earlier) Repeated Name ∷ [])
    ∷ key_rows TypeId table
    ∷ key_rows Index table
    ∷ key_rows Instance table
    ∷ (fault_row
    (has_triple
    (guid_in TypeId table) (number_in Index table) (number_in Instance table) earlier)
    Repeated Instance ∷ [])
    ∷ one_table (factory_tables room table)
    ∷ []

-- the device of a table
abbrev pub device_in : Members → DeviceValue
device_in table = record {
  name = text_in Name table;
  type_id = guid_in TypeId table;
  index = number_in Index table;
  instance = number_in Instance table;
  fw_type = number_in FwType table;
  capacity = number_in Capacity table;
  version = number_in Version table;
  floor = number_in Floor table;
  flags = number_in Flags table;
}

-- the rows of the table of a device
abbrev pub table_rows : ℕ → List DeviceValue → Members → List (Row Fault)
table_rows room earlier table = one_table (device_tables room earlier table)

-- the first fault of the table of a device
unfoldable pub table_test : ℕ → List DeviceValue → Members → Option Fault
table_test room earlier table = first_refusal (table_rows room earlier table)

-- the rows of an entry: it is a table, and that table's own
abbrev pub rows_or_kind : ℕ → List DeviceValue → Option Members → List (Row Fault)
rows_or_kind room earlier None = fault_row true WrongKind Device ∷ []
rows_or_kind room earlier (Some table) = table_rows room earlier table

-- the first fault of an entry
unfoldable pub entry_test : ℕ → List DeviceValue → Data → Option Fault
entry_test room earlier d = first_refusal (rows_or_kind room earlier (as_table d))

-- the table that an entry is
abbrev pub table_or_none : Option Members → Members
table_or_none None = no_members
table_or_none (Some table) = table

-- the device of an entry
unfoldable pub device_of : Data → DeviceValue
device_of d = device_in (table_or_none (as_table d))

-- the rows of the entries behind these devices, in order; each entry takes of what is left
abbrev pub entry_rows : ℕ → List DeviceValue → List Data → List (Row Fault)
entry_rows room earlier [] = []
entry_rows room earlier (d ∷ ds) =
    rows_or_kind room earlier (as_table d)
    ++ entry_rows (room - (device_of d).capacity) (earlier ++ device_of d ∷ []) ds

-- the first fault of the entries, within so much capacity
unfoldable pub entries_test : ℕ → List Data → Option Fault
entries_test most ds = first_refusal (entry_rows most [] ds)

-- the device was appended to these, and so much capacity was left
pub record Adds (old : List DeviceValue) (d : DeviceValue) (new : List DeviceValue)
    (room left : ℕ) : Type 0 where
  pub items : new ≡ old ++ d ∷ []
  pub within : d.capacity ≤ room
  pub rest : left ≡ room - d.capacity

-- the devices are those of the entries, within so much capacity
pub record AreRead (ds : List Data) (most : ℕ) (devices : Kept DeviceValue) : Type 0 where
  pub items : devices.items ≡ map device_of ds
  pub capacity : capacity_of devices.items ≤ most
