-- The faults of a text: rows of test and fault at a key, in tables of which the first row
-- that holds decides.
use Rattle.std.specs.Prelude.{◌≡◌, Bool, List, Option, None, Some, Result, Ok, Err}
use Rattle.std.specs.List.{flat_map}
use Rattle.cu_base.specs.Refusals.{Row, row}
use Rattle.recipe_files.specs.declared.faults.BadKind.{BadKind}
use Rattle.recipe_files.specs.declared.faults.Fault.{Fault}
use Rattle.recipe_files.specs.declared.faults.Stop.{Stop}
use Rattle.recipe_files.specs.declared.faults.Stop.TheVariants.{Bad, Memory}
use Rattle.recipe_files.specs.declared.faults.FileFault.{FileFault}
use Rattle.recipe_files.specs.declared.faults.FileFault.TheVariants as file
use Rattle.recipe_files.specs.declared.keys.Key.{Key}
use Rattle.recipe_files.specs.Keys.{key_name}

-- a row of its test, and of the kind and the key of its fault
abbrev pub fault_row : Bool → BadKind → Key → Row Fault
fault_row holds kind key = row holds (record { kind = kind; key = key })

-- tables one behind another, as one
abbrev pub one_table : List (List (Row Fault)) → List (Row Fault)
one_table tables = flat_map (λ rows. rows) tables

-- a value with this property exactly where no row refuses, else the fault of the first row that
-- holds; or want of memory
abbrev pub Reads : {V : Type 0} → Option Fault → (V → Type 0) → Result V Stop → Type 0
Reads refused IsRead (Ok v) = (refused ≡ None) × IsRead v
Reads refused IsRead (Err (Bad fault)) = refused ≡ Some fault
Reads refused IsRead (Err Memory) = Unit {0}

-- the fault is told with the plain name of its key, or want of memory
abbrev pub TellsStop : Stop → FileFault → Type 0
TellsStop (Bad fault) (file.Bad kind key) = (kind ≡ fault.kind) × (key ≡ key_name fault.key)
TellsStop Memory (file.Bad kind key) = ⊥
TellsStop stop file.Memory = Unit {0}
