-- A board's text: the rows of its document in order, and the board that it says.
use Rattle.std.specs.Prelude.{ℕ, Bool, List, [], ◌∷◌, length, map, nat_lt, ◌==◌, Option}
use Rattle.std.specs.List.{flat_map}
use Rattle.toml.specs.Data.{Data, Members}
use Rattle.cu_base.specs.Refusals.{Row, first_refusal}
use Rattle.bench_model.specs.Boards.{BoardValue, least_bank, most_capacity}
use Rattle.bench_model.specs.declared.limits.TheConstants.{MAX_STORE}
use Rattle.recipe_files.specs.declared.faults.BadKind.TheVariants.{MissingKey, BankTooSmall}
use Rattle.recipe_files.specs.declared.faults.Fault.{Fault}
use Rattle.recipe_files.specs.declared.keys.Key.TheVariants.{Bank, Store, Layout, ResultMax}
use Rattle.recipe_files.specs.declared.keys.Key.TheVariants.{Digests, Device}
use Rattle.recipe_files.specs.Documents.{Said, document, text_says}
use Rattle.recipe_files.specs.Faults.{fault_row, one_table}
use Rattle.recipe_files.specs.Tests.{key_rows, digest_rows}
use Rattle.recipe_files.specs.Values.{number_in, number_or, text_in, is_two, entries_in}
use Rattle.recipe_files.specs.Digests.{digest_of}
use Rattle.recipe_files.specs.Devices.{device_of, entry_rows}

-- whether the devices of a document have two banks each; without a layout they have one
abbrev pub has_two_banks : Members → Bool
has_two_banks table = is_two (text_in Layout table)

-- the format of the store of a document; without one it is the last
abbrev pub store_in : Members → ℕ
store_in table = number_or MAX_STORE Store table

-- the row of a list of devices: there is one
abbrev pub some_rows : List Data → List (Row Fault)
some_rows entries = fault_row (length entries == 0) MissingKey Device ∷ []

-- the fault of a list of devices without one
unfoldable pub some_test : List Data → Option Fault
some_test entries = first_refusal (some_rows entries)

-- the row of a bank: it has room for the results up to the greatest
abbrev pub bank_rows : ℕ → ℕ → List (Row Fault)
bank_rows bank result_max = fault_row (nat_lt bank (least_bank result_max)) BankTooSmall Bank ∷ []

-- the fault of a bank for its results
unfoldable pub bank_test : ℕ → ℕ → Option Fault
bank_test bank result_max = first_refusal (bank_rows bank result_max)

-- the tables of a document, in the order of the keys
abbrev pub board_tables : Members → List (List (Row Fault))
board_tables table =
    key_rows Bank table
    ∷ key_rows Store table
    ∷ key_rows Layout table
    ∷ key_rows ResultMax table
    ∷ key_rows Digests table
    ∷ flat_map digest_rows (entries_in Digests table)
    ∷ key_rows Device table
    ∷ some_rows (entries_in Device table)
    ∷ entry_rows (most_capacity (has_two_banks table)) [] (entries_in Device table)
    ∷ bank_rows (number_in Bank table) (number_in ResultMax table)
    ∷ []

-- the first fault of a document
unfoldable pub board_test : Members → Option Fault
board_test table = first_refusal (one_table (board_tables table))

-- the board that a document without a fault says
unfoldable pub board_in : Members → BoardValue
board_in table = record {
  bank = number_in Bank table;
  store = store_in table;
  two_banks = has_two_banks table;
  result_max = number_in ResultMax table;
  digests = map digest_of (entries_in Digests table);
  devices = map device_of (entries_in Device table);
}

-- what a text says
abbrev pub board_text : List ℕ → Said BoardValue
board_text bytes = text_says board_test board_in (document bytes)
