-- What the scan of a file finds: its headers and its offset list are read in order, and all else is
-- passed by.
use Rattle.std.specs.Prelude.{◌≡◌, ℕ, ◌≤◌, ◌<◌, ◌+◌, min, List, [], ◌++◌, length, take, Option}
use Rattle.std.specs.Prelude.{None, Some, Result, Ok, Err, ⊤}
use Rattle.std.specs.Io.KnownBytes.{IsAtEnd}
use Rattle.cu_base.specs.Causes.{Rose}
use Rattle.cu_base.specs.Refusals.{Row, first_refusal}
use Rattle.cu_base.specs.declared.limits.TheConstants.{MAX_CAPSULE_BYTES}
use Rattle.cu_io.specs.Streams.{Progress, Goes, Ends}
use Rattle.fmp_headers.specs.CapsuleHeader.{capsule_header}
use Rattle.fmp_headers.specs.declared.capsule.CapsuleHeader.{CapsuleHeader}
use Rattle.fmp_headers.specs.declared.faults.HeaderFault.{HeaderFault}
use Rattle.capsule_grammar.specs.Fronts.{Begins}
use Rattle.capsule_grammar.specs.Refusals.{Answers, capsule_rows, body_rows, image_rows}
use Rattle.capsule_grammar.specs.declared.refusal.Refusal.{Refusal}
use Rattle.capsule_grammar.specs.declared.refusal.Why.{Why}
use Rattle.capsule_tool.specs.declared.scan.stop.ScanStop.{ScanStop}
use Rattle.capsule_tool.specs.declared.scan.stop.ScanStop.TheVariants.{Refused, Ended, Failed}
use Rattle.capsule_tool.specs.declared.scan.stop.ScanStop.TheVariants.{Memory}

-- Some bytes came. In every part of this size that begins with those that stood before and with
-- them, this is the first row that holds.
abbrev pub Tells : ℕ → (List ℕ → List (Row (ℕ × Why))) → List ℕ → Progress → Progress
    → Option (ℕ × Why)
    → Type 0
Tells size rows before old new refused =
    (bytes : List ℕ) × Goes bytes old new × (length (before ++ bytes) ≤ size)
    × ((whole : List ℕ) → Begins (before ++ bytes) size whole
    → first_refusal (rows whole) ≡ refused)

-- the part goes on behind what came, and no byte is left
abbrev pub IsCut : ℕ → List ℕ → Progress → Progress → Type 0
IsCut size before old new = (bytes : List ℕ) × Goes bytes old new
    × (length (before ++ bytes) < size) × IsAtEnd new.left

-- what came of scanning a part of this size, of which some bytes stood before, for these rows
abbrev pub Scans : {X : Type 0} → ℕ → (List ℕ → List (Row (ℕ × Why))) → List ℕ → Progress → Progress
    → Result X ScanStop → Type 0
Scans size rows before old new (Ok done) = Tells size rows before old new None
Scans size rows before old new (Err (Refused refusal)) =
    Tells size rows before old new (Some (refusal.at, refusal.why))
Scans size rows before old new (Err Ended) = IsCut size before old new
Scans size rows before old new (Err Failed) = Rose old.faults new.faults
Scans size rows before old new (Err Memory) = ⊤

-- fewer bytes than this came and none is left; or a read failed, or memory ran out
abbrev pub IsStop : ℕ → Progress → Progress → ScanStop → Type 0
IsStop size old new (Refused refusal) = ⊥
IsStop size old new Ended = Ends size old new
IsStop size old new Failed = Rose old.faults new.faults
IsStop size old new Memory = ⊤

-- Bytes came up to an item and then its head, which is at most 48 bytes of it. In every item of
-- this size that begins so, this is the first row that holds.
abbrev pub TellsImage : ℕ → ℕ → ℕ → Progress → Progress → Option (ℕ × Why) → Type 0
TellsImage ahead size at old new refused =
    (passed head : List ℕ) × (length passed ≡ ahead) × (length head ≡ min 48 size)
    × Goes (passed ++ head) old new
    × ((image : List ℕ) → Begins head size image → first_refusal (image_rows image at) ≡ refused)

-- what came of scanning an image item of this size that begins some bytes ahead
abbrev pub ScansImage : ℕ → ℕ → ℕ → Progress → Progress → Result ℕ ScanStop → Type 0
ScansImage ahead size at old new (Ok n) = (n ≡ min 48 size) × TellsImage ahead size at old new None
ScansImage ahead size at old new (Err (Refused refusal)) =
    TellsImage ahead size at old new (Some (refusal.at, refusal.why))
ScansImage ahead size at old new (Err Ended) = IsCut (ahead + size) [] old new
ScansImage ahead size at old new (Err Failed) = Rose old.faults new.faults
ScansImage ahead size at old new (Err Memory) = ⊤

-- Some bytes came, from which this header was read. In every file that begins with them, and whose
-- capsule header is not refused, this is the first row of the body that holds.
abbrev pub TellsFile : Result CapsuleHeader HeaderFault → Progress → Progress → Option (ℕ × Why)
    → Type 0
TellsFile read old new refused =
    (bytes : List ℕ) × Goes bytes old new × (28 ≤ length bytes) × (length bytes ≤ MAX_CAPSULE_BYTES)
    × (capsule_header bytes ≡ read)
    × ((file : List ℕ) → take (length bytes) file ≡ bytes → first_refusal (capsule_rows file) ≡ None
    → first_refusal (body_rows file) ≡ refused)

-- all bytes came, from which this header was read, and their capsule header is refused
abbrev pub IsCutFile : Result CapsuleHeader HeaderFault → Progress → Progress → Type 0
IsCutFile read old new =
    (bytes : List ℕ) × Goes bytes old new × IsAtEnd new.left × (length bytes ≤ MAX_CAPSULE_BYTES)
    × (capsule_header bytes ≡ read)
    × (first_refusal (capsule_rows bytes) ≡ None → ⊥)

-- a file of this many bytes, from which this header is read; and this was found of its body, where
-- its capsule header is not refused
pub record IsFound (read : Result CapsuleHeader HeaderFault) (size : ℕ)
    (found : Result (Unit {0}) Refusal) (file : List ℕ) : Type 0 where
  pub long : length file ≡ size
  pub header : capsule_header file ≡ read
  pub body : first_refusal (capsule_rows file) ≡ None
      → Answers found (first_refusal (body_rows file))

-- what came of scanning a file
abbrev pub ScansFile : {X : Type 0} → Result CapsuleHeader HeaderFault → Progress → Progress
    → Result X ScanStop → Type 0
ScansFile read old new (Ok done) = TellsFile read old new None
ScansFile read old new (Err (Refused refusal)) =
    TellsFile read old new (Some (refusal.at, refusal.why))
ScansFile read old new (Err Ended) = IsCutFile read old new
ScansFile read old new (Err Failed) = Rose old.faults new.faults
ScansFile read old new (Err Memory) = ⊤
