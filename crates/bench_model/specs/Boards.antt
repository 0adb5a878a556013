-- What a board is.
use Rattle.std.specs.Prelude.{ℕ, ◌+◌, ◌*◌, ◌≤◌, Bool, List, length, if◌then◌else◌}
use Rattle.cu_base.specs.declared.digest.Digest.{Digest}
use Rattle.bench_model.specs.declared.limits.TheConstants.{BANK_BASE, MAX_BANK, MAX_CAPACITIES}
use Rattle.bench_model.specs.declared.limits.TheConstants.{MAX_DEVICES, MAX_DIGESTS}
use Rattle.bench_model.specs.declared.limits.TheConstants.{MAX_STORE, MAX_TWO_BANK_CAPACITIES}
use Rattle.bench_model.specs.declared.limits.TheConstants.{MIN_BANK, MIN_STORE, RESULT_ROOM}
use Rattle.bench_model.specs.Devices.{DeviceValue, AreDevices, capacity_of}

-- the fields of a board, with no place for memory
pub record BoardValue : Type 0 where
  pub bank : ℕ
  pub store : ℕ
  pub two_banks : Bool
  pub result_max : ℕ
  pub digests : List Digest
  pub devices : List DeviceValue

-- the board of these fields, in their order
abbrev pub board : ℕ → ℕ → Bool → ℕ → List Digest → List DeviceValue → BoardValue
board bank store two_banks result_max digests devices = record {
  bank = bank;
  store = store;
  two_banks = two_banks;
  result_max = result_max;
  digests = digests;
  devices = devices;
}

-- the fewest bytes of a bank that keeps results up to this number
abbrev pub least_bank : ℕ → ℕ
least_bank result_max = BANK_BASE + RESULT_ROOM * (result_max + 1)

-- the most bytes of all capacities in sum, with two banks a device or one
abbrev pub most_capacity : Bool → ℕ
most_capacity two_banks = if two_banks then MAX_TWO_BANK_CAPACITIES else MAX_CAPACITIES

-- the board keeps every limit
pub record IsBoard (b : BoardValue) : Type 0 where
  pub bank_low : MIN_BANK ≤ b.bank
  pub bank_high : b.bank ≤ MAX_BANK
  pub store_low : MIN_STORE ≤ b.store
  pub store_high : b.store ≤ MAX_STORE
  pub results : least_bank b.result_max ≤ b.bank
  pub digests : length b.digests ≤ MAX_DIGESTS
  pub some_device : 1 ≤ length b.devices
  pub devices : length b.devices ≤ MAX_DEVICES
  pub distinct : AreDevices b.devices
  pub capacity : capacity_of b.devices ≤ most_capacity b.two_banks
