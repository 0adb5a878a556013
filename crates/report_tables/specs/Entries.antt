-- The entries of the EFI System Resource Table (UEFI 2.10, 23.4) by the devices of a board and
-- their states. Own: the devices of one type make one entry.
use Rattle.std.specs.Prelude.{ℕ, ◌==◌, not, max, min, List, [], ◌∷◌, ◌++◌, map, filter, find}
use Rattle.std.specs.Prelude.{unwrap_or, if◌then◌else◌, Bool}
use Rattle.std.specs.List.{list_any, zip}
use Rattle.std.specs.Str.{bytes_eq}
use Rattle.cu_base.specs.declared.device_state.DevState.{DevState}
use Rattle.bench_model.specs.Boards.{BoardValue}
use Rattle.bench_model.specs.Devices.{DeviceValue}
use Rattle.report_tables.specs.declared.esrt.EsrtEntry.{EsrtEntry}

-- a device and its state
abbrev pub Installed : Type 0
Installed = DeviceValue × DevState

-- two devices have one type
abbrev pub is_same_type : Installed → Installed → Bool
is_same_type a b = bytes_eq a.0.type_id.bytes b.0.type_id.bytes

-- the least of a number and the numbers of a list
abbrev pub least : ℕ → List ℕ → ℕ
least n [] = n
least n (m ∷ ms) = min m (least n ms)

-- the greatest of a number and the numbers of a list
abbrev pub greatest : ℕ → List ℕ → ℕ
greatest n [] = n
greatest n (m ∷ ms) = max m (greatest n ms)

-- version and status of the last attempt on a device
abbrev pub attempt_of : DevState → ℕ × ℕ
attempt_of s = (s.last_version, s.last_status)

-- the attempt that is told: the first whose status is not 0, else the first one
abbrev pub told_attempt : ℕ × ℕ → List (ℕ × ℕ) → ℕ × ℕ
told_attempt first others = unwrap_or (find (λ a. not (a.1 == 0)) (first ∷ others)) first

-- the entry of a type of which there is this device alone
abbrev pub entry_alone : Installed → EsrtEntry
entry_alone d = record {
  class = d.0.type_id;
  fw_type = d.0.fw_type;
  version = d.1.version;
  lowest = d.1.floor;
  flags = d.0.flags;
  last_version = d.1.last_version;
  last_status = d.1.last_status;
}

-- an entry with further devices of its type: the least version, the greatest floor in force, type
-- and flags of the first device, and the attempt that is told
abbrev pub entry_with : EsrtEntry → List Installed → EsrtEntry
entry_with e others = record {
  class = e.class;
  fw_type = e.fw_type;
  version = least e.version (map (λ d. d.1.version) others);
  lowest = greatest e.lowest (map (λ d. d.1.floor) others);
  flags = e.flags;
  last_version = attempt.0;
  last_status = attempt.1;
}
  where
    attempt : ℕ × ℕ
    attempt = told_attempt (e.last_version, e.last_status) (map (λ d. attempt_of d.1) others)

-- the entry of a type by its first device and those of its type behind it
abbrev pub entry_of : Installed → List Installed → EsrtEntry
entry_of first rest = entry_with (entry_alone first) (filter (is_same_type first) rest)

-- the entries of devices behind these: one for each device before which none of its type stands
abbrev pub entries_behind : List Installed → List Installed → List EsrtEntry
entries_behind before [] = []
entries_behind before (d ∷ ds) =
    (if list_any (is_same_type d) before then [] else entry_of d ds ∷ [])
    ++ entries_behind (before ++ d ∷ []) ds

-- one entry for each type, in order of first appearance on the board
abbrev pub entries_of : BoardValue → List DevState → List EsrtEntry
entries_of board states = entries_behind [] (zip board.devices states)
