-- Whether an item may be tried on a device: the checks before a SetImage in their order, of which
-- the first that fails refuses it with its LastAttemptStatus (UEFI 2.10, 23.4). They follow the
-- checks of EDK II's FmpDevicePkg.
use Rattle.std.specs.Prelude.{ℕ, Bool, true, false, ◌==◌, ◌&&◌, ◌||◌, not, nat_le, List, [], ◌∷◌}
use Rattle.std.specs.Prelude.{length, map, slice_get, Option, None, Some, option_map, unwrap_or}
use Rattle.std.specs.Prelude.{if◌then◌else◌}
use Rattle.std.specs.List.{list_all, enumerate_from}
use Rattle.cu_base.specs.Refusals.{Row, row, first_refusal}
use Rattle.cu_base.specs.declared.guid.Guid.{Guid}
use Rattle.image_parts.specs.Admission.{is_admitted}
use Rattle.bench_model.specs.Boards.{BoardValue}
use Rattle.reference_machine.specs.declared.attempt_status.TheConstants as attempts
use Rattle.reference_machine.specs.Formats.{Parts, Formats}
use Rattle.reference_machine.specs.Deliveries.{BootUnit}
use Rattle.reference_machine.specs.Spent.{floor_of, version_of, versions_of, dependency_of}
use Rattle.reference_machine.specs.Machine.{Machine}

-- the capacity of a device
abbrev pub capacity_of : BoardValue → ℕ → ℕ
capacity_of board d = unwrap_or (option_map (λ x. x.capacity) (slice_get board.devices d)) 0

-- the versions of all devices, with that of one device replaced
abbrev pub versions_with : Machine → ℕ → ℕ → List (Guid × ℕ)
versions_with m d version =
    map (λ p. (p.1.type_id, if p.0 == d then version else version_of m.board m.list p.0))
    (enumerate_from 0 m.board.devices)

-- a dependency section holds over versions: one that is not there does
abbrev pub holds : Formats → List ℕ → List (Guid × ℕ) → Bool
holds f section versions = length section == 0 || f.is_satisfied section versions

-- the section of another device's image that holds goes on holding with a new version of device d
abbrev pub goes_on_holding : Formats → Machine → ℕ → ℕ → ℕ → Bool
goes_on_holding f m d version e =
    e == d || not (holds f section (versions_of m.board m.list))
    || holds f section (versions_with m d version)
  where
    section : List ℕ
    section = dependency_of m.board m.list e

-- the image's own section holds, and what holds of the other devices goes on holding
abbrev pub keeps_dependencies : Formats → Machine → ℕ → Parts → Bool
keeps_dependencies f m d p =
    holds f p.dependency (versions_of m.board m.list)
    && list_all (λ q. goes_on_holding f m d p.version q.0) (enumerate_from 0 m.board.devices)

-- the image has its parts
abbrev pub is_split : Option Parts → Bool
is_split None = false
is_split (Some parts) = true

-- the parts of an image. What stands for those that it does not have decides nothing: the first
-- check has failed.
abbrev pub known_parts : Option Parts → Parts
known_parts None = record { version = 0; lowest = 0; dependency = []; payload = [] }
known_parts (Some parts) = parts

-- the row of a check: where it does not pass, it refuses with this status
abbrev pub check : Bool → ℕ → Row ℕ
check passes status = row (not passes) status

-- the checks of a try whose image has these parts, in their order
abbrev pub checks : Formats → Machine → BootUnit → Option Parts → List (Row ℕ)
checks f m u parts =
    check (is_split parts) attempts.LAST_ATTEMPT_STATUS_ERROR_INVALID_FORMAT
    ∷ check (is_admitted m.board.digests u.image) attempts.LAST_ATTEMPT_STATUS_ERROR_AUTH_ERROR
    ∷ check
    (nat_le (length p.payload) (capacity_of m.board d))
    attempts.LAST_ATTEMPT_STATUS_ERROR_INSUFFICIENT_RESOURCES
    ∷ check
    (nat_le (floor_of m.board m.list d) p.version)
    attempts.LAST_ATTEMPT_STATUS_ERROR_INCORRECT_VERSION
    ∷ check (keeps_dependencies f m d p) attempts.LAST_ATTEMPT_STATUS_ERROR_UNSATISFIED_DEPENDENCIES
    ∷ []
  where
    p : Parts
    p = known_parts parts

    d : ℕ
    d = u.key.device

-- why a try whose image has these parts is refused: the status of the first check that does not
-- pass, none where all pass
abbrev pub refusal_with : Formats → Machine → BootUnit → Option Parts → Option ℕ
refusal_with f m u parts = first_refusal (checks f m u parts)

-- why a try is refused
abbrev pub refusal : Formats → Machine → BootUnit → Option ℕ
refusal f m u = refusal_with f m u (f.parts u.image u.head.support)
