-- What a map of variables tells of the platform. A variable that is not there, or whose bytes are
-- no spelling, tells what the factory left: its state, 0, or nothing.
use Rattle.std.specs.Prelude.{ℕ, ◌==◌, ◌/◌, ◌%◌, Bool, false, List, [], length, find, filter_map}
use Rattle.std.specs.Prelude.{nat_lt, slice_get, Option, option_map, option_and_then, unwrap_or}
use Rattle.std.specs.List.{range_with_len}
use Rattle.cu_base.specs.declared.device_state.DevState.{DevState}
use Rattle.bench_model.specs.Boards.{BoardValue}
use Rattle.reference_machine.specs.Order.{in_order}
use Rattle.reference_machine.specs.Spent.{factory_floor}
use Rattle.reference_machine.specs.declared.snapshot.StagedPair.{StagedPair}
use Rattle.stored_vars.specs.Last.{last_in}
use Rattle.stored_vars.specs.Numbers.{number_in, pair_in}
use Rattle.stored_vars.specs.Progress.{progress_in, units_among}
use Rattle.stored_vars.specs.Records.{has_claim, record_in, state_in}
use Rattle.stored_vars.specs.Variables.{guid_of, name_of}
use Rattle.stored_vars.specs.declared.claim.Claim.{Claim}
use Rattle.stored_vars.specs.declared.limits.TheConstants.{MAX_STAGE_VARIABLES}
use Rattle.stored_vars.specs.declared.progress.ProgressEntry.{ProgressEntry}
use Rattle.stored_vars.specs.declared.variable.StoredVar.{StoredVar}
use Rattle.stored_vars.specs.declared.variable.StoredVar.TheVariants.{Device, Progress, Serial}
use Rattle.stored_vars.specs.declared.variable.StoredVar.TheVariants.{Stage, OsIndications}
use Rattle.stored_vars.specs.declared.variable.StoredVar.TheVariants.{CapsuleLast, Outcome}
use Rattle.var_log.specs.Changes.{Variables}

-- the bytes of a variable of the platform, where it is there
abbrev pub bytes_in : Variables → StoredVar → Option (List ℕ)
bytes_in variables v =
    option_map (λ x. x.bytes) (variables (guid_of v).bytes (name_of v))

-- the state that a device leaves the factory with: version and floor of the board, no attempt
abbrev pub factory_state : BoardValue → ℕ → DevState
factory_state board d = record {
  version = unwrap_or (option_map (λ x. x.version) (slice_get board.devices d)) 0;
  floor = factory_floor board d;
  last_version = 0;
  last_status = 0;
}

-- the state of a device: that of its record, else that of the factory
abbrev pub device_of : BoardValue → Variables → ℕ → DevState
device_of board variables d =
    unwrap_or (option_and_then state_in (bytes_in variables (Device d))) (factory_state board d)

-- the claim that is open on a device
abbrev pub claim_of : Variables → ℕ → Option Claim
claim_of variables d =
    option_and_then (λ r. r.claim) (option_and_then (record_in d) (bytes_in variables (Device d)))

-- a claim is open on a device
abbrev pub is_claimed : Variables → ℕ → Bool
is_claimed variables d =
    unwrap_or (option_map has_claim (bytes_in variables (Device d))) false

-- the first device with an open claim
abbrev pub open_device_of : BoardValue → Variables → Option ℕ
open_device_of board variables =
    find (is_claimed variables) (range_with_len 0 (length board.devices))

-- the progress that is kept, by rising serials
abbrev pub progress_of : Variables → List ProgressEntry
progress_of variables = unwrap_or (option_and_then progress_in (bytes_in variables Progress)) []

-- how many units of a file are spent by it
abbrev pub units_of : Variables → ℕ → ℕ
units_of variables serial = units_among (progress_of variables) serial

-- the last serial of a delivery by memory
abbrev pub last_staged_of : Variables → ℕ
last_staged_of variables = unwrap_or (option_and_then number_in (bytes_in variables Serial)) 0

-- what the operating system asks for
abbrev pub indications_of : Variables → ℕ
indications_of variables =
    unwrap_or (option_and_then number_in (bytes_in variables OsIndications)) 0

-- the capsule files are asked for: bit 0x04 (UEFI 2.10, 8.5.4)
abbrev pub is_asked : Variables → Bool
is_asked variables = indications_of variables / 4 % 2 == 1

-- the delivery that a variable of this number keeps
abbrev pub staged_at : Variables → ℕ → Option StagedPair
staged_at variables k = option_and_then pair_in (bytes_in variables (Stage k))

-- the deliveries that wait in memory, by the numbers of their variables
abbrev pub pairs_of : Variables → List StagedPair
pairs_of variables = filter_map (staged_at variables) (range_with_len 0 MAX_STAGE_VARIABLES)

-- the same by rising serials
abbrev pub staged_of : Variables → List StagedPair
staged_of variables = in_order (λ a b. nat_lt a.serial b.serial) (pairs_of variables)

-- the number of the last result
abbrev pub last_result_of : Variables → Option ℕ
last_result_of variables = option_and_then last_in (bytes_in variables CapsuleLast)

-- the bytes of the result of a number
abbrev pub result_of : Variables → ℕ → Option (List ℕ)
result_of variables n = bytes_in variables (Outcome n)
