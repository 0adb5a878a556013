-- The batches of a unit: its claim, and what closes it, with its result (UEFI 2.10, 8.5.6).
use Rattle.std.specs.Prelude.{ℕ, ◌+◌, ◌-◌, ◌^◌, ◌==◌, max, min, nat_lt, List, [], ◌∷◌, ◌++◌, filter}
use Rattle.std.specs.Prelude.{Option, None, Some, if◌then◌else◌}
use Rattle.bench_model.specs.Boards.{BoardValue}
use Rattle.cu_base.specs.declared.device_state.DevState.{DevState}
use Rattle.cu_base.specs.declared.time.EfiTime.{EfiTime}
use Rattle.reference_machine.specs.Results.{attempt_status, result_at}
use Rattle.reference_machine.specs.Spent.{Element, end_of}
use Rattle.reference_machine.specs.Spent.Standing.{Closed}
use Rattle.reference_machine.specs.declared.snapshot.CapsuleResult.{CapsuleResult}
use Rattle.reference_machine.specs.declared.unit.End.{End}
use Rattle.reference_machine.specs.declared.unit.End.TheVariants.{Refused, Sealed, Kept, Lost}
use Rattle.reference_machine.specs.declared.unit.UnitKey.{UnitKey}
use Rattle.report_tables.specs.Names.{number_behind}
use Rattle.report_tables.specs.Results.{result_bytes}
use Rattle.stored_vars.specs.Edits.{set_of}
use Rattle.stored_vars.specs.Holds.{bytes_in, device_of, last_result_of, progress_of}
use Rattle.stored_vars.specs.Last.{last_bytes}
use Rattle.stored_vars.specs.Progress.{progress_bytes, units_among}
use Rattle.stored_vars.specs.Records.{record_bytes}
use Rattle.stored_vars.specs.declared.claim.Claim.{Claim}
use Rattle.stored_vars.specs.declared.progress.ProgressEntry.{ProgressEntry}
use Rattle.stored_vars.specs.declared.variable.StoredVar.TheVariants.{Device, Progress}
use Rattle.stored_vars.specs.declared.variable.StoredVar.TheVariants.{CapsuleMax, CapsuleLast}
use Rattle.stored_vars.specs.declared.variable.StoredVar.TheVariants.{Outcome}
use Rattle.var_log.specs.Changes.{Variables}
use Rattle.var_log.specs.declared.change.Change.{Change}

-- the batch of a claim: the record of the device with its state and the claim
abbrev pub claim_changes : BoardValue → Variables → Claim → List Change
claim_changes board variables claim =
    set_of (Device claim.key.device) (record_bytes (record {
      state = device_of board variables claim.key.device;
      claim = Some claim;
    })) ∷ []

-- the version of a device once an image of a version ended on it
abbrev pub version_after : End → ℕ → ℕ → ℕ
version_after (Refused status) old version = old
version_after Sealed old version = version
version_after Kept old version = old
version_after Lost old version = 0

-- the floor in force of a device once an image of a floor ended on it: raised where it was sealed
abbrev pub floor_after : End → ℕ → ℕ → ℕ
floor_after (Refused status) old floor = old
floor_after Sealed old floor = max old floor
floor_after Kept old floor = old
floor_after Lost old floor = old

-- the state of a device once an image of this version and floor ended on it
abbrev pub state_with : ℕ → ℕ → End → DevState → DevState
state_with version floor end old = record {
  version = version_after end old.version version;
  floor = floor_after end old.floor floor;
  last_version = version;
  last_status = attempt_status end;
}

-- the state of a device once an element on it ended
abbrev pub state_after : Element → End → DevState → DevState
state_after e end old = state_with e.version e.floor end old

-- the record of the device on which an element ended, without a claim; none for a unit that tried
-- nothing
abbrev pub device_changes : BoardValue → Variables → Element → Option End → List Change
device_changes board variables e None = []
device_changes board variables e (Some end) =
    set_of (Device e.key.device) (record_bytes (record {
      state = state_after e end (device_of board variables e.key.device);
      claim = None;
    })) ∷ []

-- the number of the next result
abbrev pub next_result : BoardValue → Variables → ℕ
next_result board variables = number_behind (last_result_of variables) board.result_max

-- the variable of a result
abbrev pub result_changes : Option CapsuleResult → List Change
result_changes None = []
result_changes (Some r) = set_of (Outcome r.number) (result_bytes r.variable) ∷ []

-- the name of the greatest result, where none is stored
abbrev pub greatest_changes : BoardValue → Option (List ℕ) → List Change
greatest_changes board None = set_of CapsuleMax (last_bytes board.result_max) ∷ []
greatest_changes board (Some bytes) = []

-- the entries with one of a serial, whose units are the greater of those that were there and these
abbrev pub with_units : List ProgressEntry → ℕ → ℕ → List ProgressEntry
with_units entries serial units =
    filter (λ e. nat_lt e.serial serial) entries
    ++ record { serial = serial; units = max (units_among entries serial) units }
    ∷ filter (λ e. nat_lt serial e.serial) entries

-- the progress of a file once a unit of it is spent: at least the unit's number and one, and at
-- most 2^32 - 1; none for a delivery by memory
abbrev pub progress_changes : Variables → UnitKey → List Change
progress_changes variables key =
    if key.ticket.route == 1
    then set_of Progress (progress_bytes
    (with_units (progress_of variables) key.ticket.serial (min (key.unit + 1) (2 ^ 32 - 1))))
    ∷ []
    else []

-- the batch that closes a unit
abbrev pub close_changes : BoardValue → Variables → Element → List Change
close_changes board variables e =
    device_changes board variables e (end_of e)
    ++ (result_changes (result_at board (next_result board variables) e e.standing)
    ++ (greatest_changes board (bytes_in variables CapsuleMax)
    ++ (set_of CapsuleLast (last_bytes (next_result board variables))
    ∷ progress_changes variables e.key)))

-- the batch that settles an open unit: it is closed with this end at a moment
abbrev pub settle_changes : BoardValue → Variables → Element → End → EfiTime → List Change
settle_changes board variables e end now =
    close_changes board variables (record e { standing = Closed (Some end) now })
