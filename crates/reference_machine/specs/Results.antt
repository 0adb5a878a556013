-- What the platform shows of the list of spent units: the last attempt of each device, the result
-- variables (UEFI 2.10, 8.5.6) and the EFI System Resource Table (UEFI 2.10, 23.4).
use Rattle.std.specs.Prelude.{ℕ, ◌+◌, ◌%◌, ◌^◌, ◌==◌, ◌&&◌, List, [], ◌∷◌, length, map, filter}
use Rattle.std.specs.Prelude.{filter_map, find, slice_get, Option, None, Some, option_map}
use Rattle.std.specs.Prelude.{option_and_then, unwrap_or, if◌then◌else◌}
use Rattle.std.specs.List.{enumerate_from, last_or, range_with_len}
use Rattle.cu_base.specs.declared.device_state.DevState.{DevState}
use Rattle.cu_base.specs.declared.status.EfiStatus.{EfiStatus}
use Rattle.reference_machine.specs.declared.attempt_status.TheConstants as attempts
use Rattle.reference_machine.specs.declared.snapshot.CapsuleResult.{CapsuleResult}
use Rattle.report_tables.specs.declared.esrt.EsrtEntry.{EsrtEntry}
use Rattle.report_tables.specs.declared.result.FmpResult.{FmpResult}
use Rattle.reference_machine.specs.declared.unit.End.{End}
use Rattle.reference_machine.specs.declared.unit.End.TheVariants.{Refused, Sealed, Kept, Lost}
use Rattle.reference_machine.specs.declared.unit.Kind.{Kind}
use Rattle.reference_machine.specs.declared.unit.Kind.TheVariants.{Try, Heal, Skip, NoTarget, Bad}
use Rattle.reference_machine.specs.declared.unit.UnitLine.{UnitLine}
use Rattle.bench_model.specs.Boards.{BoardValue}
use Rattle.report_tables.specs.Entries.{entries_of}
use Rattle.reference_machine.specs.Spent.{Standing, Element, is_closed, end_of, is_on, floor_of}
use Rattle.reference_machine.specs.Spent.{version_of}
use Rattle.reference_machine.specs.Spent.Standing.{Open, Closed}

-- an EFI_STATUS: 0, or an error code, which has the top bit set (UEFI 2.10, appendix D)
abbrev pub efi_status : ℕ → EfiStatus
efi_status n = if n == 0 then record { code = 0 } else record { code = 2 ^ 63 + n }

-- the number of the EFI_STATUS that tells a LastAttemptStatus, in their order here: SUCCESS,
-- ABORTED, OUT_OF_RESOURCES, INCOMPATIBLE_VERSION, LOAD_ERROR, SECURITY_VIOLATION, NOT_FOUND
abbrev pub efi_numbers : List (ℕ × ℕ)
efi_numbers =
    (attempts.LAST_ATTEMPT_STATUS_SUCCESS, 0)
    ∷ (attempts.LAST_ATTEMPT_STATUS_ERROR_UNSUCCESSFUL, 21)
    ∷ (attempts.LAST_ATTEMPT_STATUS_ERROR_INSUFFICIENT_RESOURCES, 9)
    ∷ (attempts.LAST_ATTEMPT_STATUS_ERROR_INCORRECT_VERSION, 25)
    ∷ (attempts.LAST_ATTEMPT_STATUS_ERROR_INVALID_FORMAT, 1)
    ∷ (attempts.LAST_ATTEMPT_STATUS_ERROR_AUTH_ERROR, 26)
    ∷ (attempts.LAST_ATTEMPT_STATUS_ERROR_UNSATISFIED_DEPENDENCIES, 14)
    ∷ []

-- the number of the EFI_STATUS of a LastAttemptStatus
abbrev pub efi_number_of : ℕ → ℕ
efi_number_of status = unwrap_or (option_map (λ p. p.1) (find (λ p. p.0 == status) efi_numbers)) 21

-- the LastAttemptStatus of an end (UEFI 2.10, 23.4)
abbrev pub attempt_status : End → ℕ
attempt_status Sealed = attempts.LAST_ATTEMPT_STATUS_SUCCESS
attempt_status Kept = attempts.LAST_ATTEMPT_STATUS_ERROR_UNSUCCESSFUL
attempt_status Lost = attempts.LAST_ATTEMPT_STATUS_ERROR_UNSUCCESSFUL
attempt_status (Refused status) = status

-- the number of the CapsuleStatus of a unit that tries nothing: LOAD_ERROR for refused bytes, else
-- UNSUPPORTED
abbrev pub untried_number : Kind → ℕ
untried_number Bad = 1
untried_number Skip = 3
untried_number NoTarget = 3
untried_number Try = 3
untried_number Heal = 3

-- the CapsuleStatus of a closed element
abbrev pub status_with : Kind → Option End → EfiStatus
status_with kind None = efi_status (untried_number kind)
status_with kind (Some end) = efi_status (efi_number_of (attempt_status end))

-- the number of the result variable of the k-th closed element, counted from 0
abbrev pub result_number : BoardValue → ℕ → ℕ
result_number board k = k % (board.result_max + 1)

-- the line of the k-th closed element
abbrev pub line_of : BoardValue → Kind → ℕ → Element → UnitLine
line_of board kind k e = record {
  kind = kind;
  key = e.key;
  version = e.version;
  end = end_of e;
  status = status_with e.kind (end_of e);
  result = result_number board k;
}

-- version and LastAttemptStatus of an element
abbrev pub attempt_of : Element → ℕ × ℕ
attempt_of e = (e.version, unwrap_or (option_map attempt_status (end_of e)) 0)

-- those of the last closed element on a device, else 0 and 0
abbrev pub last_attempt : List Element → ℕ → ℕ × ℕ
last_attempt list d =
    unwrap_or (option_map attempt_of (last_or None (filter (λ e. is_on d e && is_closed e) list)))
    (0, 0)

-- the name of a device, and nothing where there is none
abbrev pub device_name : BoardValue → ℕ → List ℕ
device_name board d = unwrap_or (option_map (λ x. x.name) (slice_get board.devices d)) []

-- the part of a result on an FMP payload: a refused delivery and a capsule that was passed over
-- have none
abbrev pub fmp_part : BoardValue → Element → Kind → Option FmpResult
fmp_part board e Bad = None
fmp_part board e Skip = None
fmp_part board e Heal = None
fmp_part board e NoTarget =
    Some (record {
      payload = e.key.ticket.item;
      index = e.head.index;
      type_id = e.head.type_id;
      file = e.key.name;
      target = [];
    })
fmp_part board e Try =
    Some (record {
      payload = e.key.ticket.item;
      index = e.head.index;
      type_id = e.head.type_id;
      file = e.key.name;
      target = device_name board e.key.device;
    })

-- the result variable of an element that was closed at a moment
abbrev pub result_at : BoardValue → ℕ → Element → Standing → Option CapsuleResult
result_at board number e Open = None
result_at board number e (Closed end at) = Some (record {
  number = number;
  variable = record {
    guid = e.capsule;
    time = at;
    status = status_with e.kind end;
    fmp = fmp_part board e e.kind;
  };
})

-- the last closed element that has a result number
abbrev pub last_numbered : BoardValue → List Element → ℕ → Option Element
last_numbered board list n =
    option_map (λ p. p.1)
    (last_or None
    (filter (λ p. result_number board p.0 == n) (enumerate_from 0 (filter is_closed list))))

-- the result variables in rising number, each that of the last element with its number
abbrev pub results_of : BoardValue → List Element → List CapsuleResult
results_of board list =
    filter_map (λ n. option_and_then (λ e. result_at board n e e.standing)
    (last_numbered board list n)) (range_with_len 0 (board.result_max + 1))

-- the number of the last result, none before the first
abbrev pub last_result : BoardValue → List Element → Option ℕ
last_result board list =
    option_map (λ p. result_number board p.0)
    (last_or None (enumerate_from 0 (filter is_closed list)))

-- the state of a device: its version, the floor in force and its last attempt
abbrev pub state_of : BoardValue → List Element → ℕ → DevState
state_of board list d = record {
  version = version_of board list d;
  floor = floor_of board list d;
  last_version = (last_attempt list d).0;
  last_status = (last_attempt list d).1;
}

-- the entries of the ESRT by the states of the devices
abbrev pub esrt_of : BoardValue → List Element → List EsrtEntry
esrt_of board list =
    entries_of board (map (state_of board list) (range_with_len 0 (length board.devices)))
