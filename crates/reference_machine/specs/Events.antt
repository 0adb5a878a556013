-- The events of a play: what each may tell, and which machine it leaves. One outcome is that of a
-- platform on which nothing fails; the others are those after a fault, and those that only the
-- outside decides.
use Rattle.std.specs.Prelude.{ℕ, Bool, true, false, ◌+◌, ◌-◌, ◌/◌, ◌%◌, ◌^◌, ◌==◌, ◌&&◌, ◌||◌, not}
use Rattle.std.specs.Prelude.{nat_lt, nat_le, ◌≡◌, ◌⊎◌, List, [], ◌∷◌, ◌++◌, length, map}
use Rattle.std.specs.Prelude.{flat_map, sum_by, Option, None, Some, Result, Ok, Err, if◌then◌else◌}
use Rattle.fmp_headers.specs.declared.capsule.CapsuleHeader.{CapsuleHeader}
use Rattle.fmp_headers.specs.declared.faults.HeaderFault.{HeaderFault}
use Rattle.fmp_headers.specs.CapsuleHeader.{capsule_header}
use Rattle.reference_machine.specs.declared.event.Event.{Event}
use Rattle.reference_machine.specs.declared.event.Event.TheVariants.{Time, Drop, Signal, Lay, Poke}
use Rattle.reference_machine.specs.declared.event.Event.TheVariants.{Stage, Boot, Arm, Fail, Reset}
use Rattle.reference_machine.specs.declared.event.Event.TheVariants.{Show}
use Rattle.reference_machine.specs.declared.limits.TheConstants.{MAX_STAGED}
use Rattle.bench_model.specs.declared.outside_limits.TheConstants.{MAX_SEGMENTS}
use Rattle.bench_model.specs.declared.outside_limits.TheConstants.{MAX_MEMORY_BYTES}
use Rattle.reference_machine.specs.declared.trace.BootEnd.{BootEnd}
use Rattle.reference_machine.specs.declared.trace.BootEnd.TheVariants as ends
use Rattle.reference_machine.specs.declared.unit.End.{End}
use Rattle.reference_machine.specs.declared.unit.End.TheVariants.{Sealed, Kept, Lost}
use Rattle.reference_machine.specs.Boots.{BootState, boot_of, files_in_order, staged_in_order}
use Rattle.reference_machine.specs.Formats.{Formats}
use Rattle.bench_model.specs.Files.{is_folder_full, with_put}
use Rattle.reference_machine.specs.Machine.{Machine, folder_of, with_folder}
use Rattle.reference_machine.specs.Report.{ReportValue, nothing_done}
use Rattle.reference_machine.specs.Results.{esrt_of, results_of, last_result}
use Rattle.reference_machine.specs.Stops.{StopCause, IsHeldEnd, Agrees, stops}
use Rattle.reference_machine.specs.Stops.StopCause.{Flash, Volume, Memory}
use Rattle.reference_machine.specs.TraceValues.{AnswerValue, EntryValue, SnapshotValue}
use Rattle.reference_machine.specs.TraceValues.AnswerValue.{Done, Serial, FlashFault, VolumeFault}
use Rattle.reference_machine.specs.TraceValues.AnswerValue.{Full, Wraps, Invalid, Unsupported}
use Rattle.reference_machine.specs.TraceValues.AnswerValue.{Resources, Booted, Shown}

-- what the inputs hold, by their names
abbrev pub InputBytes : Type 0
InputBytes = List ℕ → List ℕ

-- what an event may tell, with the machine that it then leaves
abbrev pub Outcome : Type 0
Outcome = EntryValue × Machine

-- an answer of an event that did not open the store
abbrev pub plain : AnswerValue → EntryValue
plain answer = record { opened = None; pending = None; answer = answer }

-- an answer of an event that opened the store
abbrev pub opened : Machine → AnswerValue → EntryValue
opened m answer = record { opened = Some m.batches; pending = None; answer = answer }

-- an answer after which the batch in hand is stored or is not
abbrev pub in_doubt : Machine → AnswerValue → EntryValue
in_doubt m answer = record {
  opened = Some m.batches;
  pending = Some (m.batches + 1);
  answer = answer;
}

-- the machine after a fault
abbrev pub failed : Machine → Machine
failed m = record m { failed = true }

-- the machine with a file put into the folder
abbrev pub with_file : Machine → List ℕ → List ℕ → Machine
with_file m name bytes = with_folder m (with_put (folder_of m) name bytes)

-- bytes would pass the last address but one
abbrev pub wraps : ℕ → List ℕ → Bool
wraps address bytes = nat_lt (2 ^ 64 - 1) (address + length bytes)

-- how many bytes are laid, those that later segments hide counted too
abbrev pub laid_bytes : Machine → ℕ
laid_bytes m = sum_by (λ s. length s.bytes) m.memory

-- as many segments are laid as there may be, or the bytes would pass their limit
abbrev pub is_memory_full : Machine → List ℕ → Bool
is_memory_full m bytes =
    nat_le MAX_SEGMENTS (length m.memory) || nat_lt MAX_MEMORY_BYTES (laid_bytes m + length bytes)

-- the machine with one more segment
abbrev pub with_segment : Machine → ℕ → List ℕ → Machine
with_segment m address bytes =
    record m { memory = m.memory ++ record { address = address; bytes = bytes } ∷ [] }

-- whether flags have a bit: PERSIST_ACROSS_RESET is bit 16, POPULATE_SYSTEM_TABLE bit 17,
-- INITIATE_RESET bit 18 (UEFI 2.10, 8.5.3)
abbrev pub has_bit : ℕ → ℕ → Bool
has_bit flags n = flags / 2 ^ n % 2 == 1

-- why UpdateCapsule refuses a capsule of these flags: tables and resets need a capsule that lasts
-- (UEFI 2.10, 8.5.3), and only a capsule that lasts, and that is no table, is taken
abbrev pub flags_refusal : ℕ → Option AnswerValue
flags_refusal flags =
    if has_bit flags 17 && not (has_bit flags 16) then Some Invalid
    else if has_bit flags 18 && not (has_bit flags 16) then Some Invalid
    else if not (has_bit flags 16) then Some Unsupported
    else if has_bit flags 17 then Some Unsupported
    else None

-- the refusal of a capsule header
abbrev pub header_refusal : Result CapsuleHeader HeaderFault → Option AnswerValue
header_refusal (Err fault) = Some Invalid
header_refusal (Ok header) = flags_refusal header.flags

-- the refusal of what a scatter list holds
abbrev pub coalesced_refusal : Option (List ℕ) → Option AnswerValue
coalesced_refusal None = Some Invalid
coalesced_refusal (Some bytes) = header_refusal (capsule_header bytes)

-- no more deliveries are taken by memory where eight wait, or where no serial is left
abbrev pub staging_refusal : Machine → Option AnswerValue → Option AnswerValue
staging_refusal m (Some answer) = Some answer
staging_refusal m None =
    if nat_le MAX_STAGED (length m.staged) || nat_le (2 ^ 64 - 1) m.last_staged then Some Resources
    else None

-- why UpdateCapsule refuses the scatter list at an address
abbrev pub stage_refusal : Formats → Machine → ℕ → Option AnswerValue
stage_refusal f m address = staging_refusal m (coalesced_refusal (f.coalesced m.memory address))

-- the machine with a delivery staged, in one batch
abbrev pub with_staged : Machine → ℕ → Machine
with_staged m address = record m {
  staged = m.staged ++ record { serial = m.last_staged + 1; address = address } ∷ [];
  last_staged = m.last_staged + 1;
  batches = m.batches + 1;
}

-- the machine in which the capsule files were asked for, in one batch
abbrev pub signalled : Machine → Machine
signalled m = record m { is_signalled = true; batches = m.batches + 1 }

-- the machine after a reset that loses the memory
abbrev pub cold : Machine → Machine
cold m = record m { memory = []; failed = false }

-- the machine after a reset that keeps the memory
abbrev pub warm : Machine → Machine
warm m = record m { failed = false }

-- what the platform shows
abbrev pub snapshot_of : Machine → SnapshotValue
snapshot_of m = record {
  esrt = esrt_of m.board m.list;
  results = results_of m.board m.list;
  last = last_result m.board m.list;
  files = map (λ x. record { name = x.name; serial = x.serial; size = length x.bytes })
      (files_in_order m);
  staged = staged_in_order m;
}

-- the entry of a boot
abbrev pub booted : ReportValue → BootEnd → EntryValue
booted r end = record { opened = r.opened; pending = r.pending; answer = Booted r end }

-- the outcome of a finished boot
abbrev pub boot_done : BootState → Outcome
boot_done b = (booted b.report ends.Ok, b.machine)

-- the outcome of UpdateCapsule
abbrev pub stage_done : Machine → ℕ → Option AnswerValue → Outcome
stage_done m address (Some answer) = (opened m answer, m)
stage_done m address None = (opened m (Serial (m.last_staged + 1)), with_staged m address)

-- the outcome of a request for the capsule files
abbrev pub requested : Machine → Outcome
requested m = (opened m Done, signalled m)

-- the outcome of bytes that are put into the folder
abbrev pub dropped : Machine → List ℕ → List ℕ → Outcome
dropped m file bytes =
    if is_folder_full (folder_of m) file (length bytes) then (plain Full, m)
    else (plain (Serial (m.last_file + 1)), with_file m file bytes)

-- the outcome of bytes that are laid into memory
abbrev pub laid : Machine → ℕ → List ℕ → Outcome
laid m address bytes =
    if wraps address bytes then (plain Wraps, m)
    else if is_memory_full m bytes then (plain Full, m)
    else (plain Done, with_segment m address bytes)

-- the outcome of an event on a platform on which nothing fails
abbrev pub outcome : Formats → InputBytes → Machine → Event → Outcome
outcome f bytes_of m (Time moment) = (plain Done, record m { now = moment })
outcome f bytes_of m (Drop file input) = dropped m file (bytes_of input)
outcome f bytes_of m Signal = requested m
outcome f bytes_of m (Lay address input) = laid m address (bytes_of input)
outcome f bytes_of m (Poke address bytes) = laid m address bytes
outcome f bytes_of m (Stage address) = stage_done m address (stage_refusal f m address)
outcome f bytes_of m Boot = boot_done (boot_of f m Sealed)
outcome f bytes_of m (Arm after choice) = (plain Done, m)
outcome f bytes_of m (Fail nth) = (plain Done, m)
outcome f bytes_of m (Reset true) = (plain Done, cold m)
outcome f bytes_of m (Reset false) = (plain Done, warm m)
outcome f bytes_of m Show = (opened m (Shown (snapshot_of m)), m)

-- the outcomes of a file after a fault: it is put or is not, where the folder takes it
abbrev pub drop_faults : Machine → List ℕ → List ℕ → List Outcome
drop_faults m file bytes =
    (plain VolumeFault, failed m)
    ∷ (if is_folder_full (folder_of m) file (length bytes) then []
    else (plain VolumeFault, failed (with_file m file bytes)) ∷ [])

-- the outcomes of UpdateCapsule after a fault: the delivery is staged or is not, where the checks
-- allow it
abbrev pub stage_faults : Machine → ℕ → Option AnswerValue → List Outcome
stage_faults m address (Some answer) =
    (plain FlashFault, failed m) ∷ (opened m FlashFault, failed m)
    ∷ (in_doubt m FlashFault, failed m) ∷ []
stage_faults m address None =
    (plain FlashFault, failed m) ∷ (opened m FlashFault, failed m)
    ∷ (in_doubt m FlashFault, failed m)
    ∷ (in_doubt m FlashFault, failed (with_staged m address)) ∷ []

-- the other outcomes of an event but those of a stopped boot. A boot before which an element is
-- open closes it by what the device holds. A reset loses the memory after a fault, since the power
-- may be off.
abbrev pub other_outcomes : Formats → InputBytes → Machine → Event → List Outcome
other_outcomes f bytes_of m (Time moment) = []
other_outcomes f bytes_of m (Drop file input) = drop_faults m file (bytes_of input)
other_outcomes f bytes_of m Signal =
    (plain FlashFault, failed m) ∷ (opened m FlashFault, failed m)
    ∷ (in_doubt m FlashFault, failed m) ∷ (in_doubt m FlashFault, failed (signalled m)) ∷ []
other_outcomes f bytes_of m (Lay address input) = []
other_outcomes f bytes_of m (Poke address bytes) = []
other_outcomes f bytes_of m (Stage address) = stage_faults m address (stage_refusal f m address)
other_outcomes f bytes_of m Boot =
    (booted nothing_done ends.Flash, failed m)
    ∷ boot_done (boot_of f m Kept) ∷ boot_done (boot_of f m Lost) ∷ []
other_outcomes f bytes_of m (Arm after choice) = []
other_outcomes f bytes_of m (Fail nth) = []
other_outcomes f bytes_of m (Reset true) = []
other_outcomes f bytes_of m (Reset false) = if m.failed then (plain Done, cold m) ∷ [] else []
other_outcomes f bytes_of m Show =
    (plain FlashFault, failed m) ∷ (opened m VolumeFault, failed m) ∷ []

-- an item stands in a list
abbrev pub IsIn : {X : Type 0} → X → List X → Type 0
IsIn x [] = ⊥
IsIn x (y ∷ ys) = (x ≡ y) ⊎ IsIn x ys

-- a cause of a stopped boot is told as its end; want of memory ends the play and is not told
abbrev pub IsToldAs : StopCause → BootEnd → Type 0
IsToldAs Flash end = end ≡ ends.Flash
IsToldAs Volume end = end ≡ ends.Volume
IsToldAs Memory end = ⊥

-- a fault of the outside stopped a boot: its report agrees with a machine, and this is left with
-- the mark of a fault
pub record IsStoppedBoot (f : Formats) (m : Machine) (entry : EntryValue)
    (new : Machine) : Type 0 where
  pub heal : End  -- how an element that was open is closed
  pub is_held : IsHeldEnd heal
  pub report : ReportValue
  pub cause : StopCause
  pub end : BootEnd
  pub machine : Machine
  pub agrees : Agrees f m heal report cause machine
  pub told : IsToldAs cause end
  pub is_entry : entry ≡ booted report end
  pub is_new : new ≡ failed machine

-- an event that is a boot was stopped
abbrev pub IsStopped : Formats → Machine → Event → EntryValue → Machine → Type 0
IsStopped f m (Time moment) entry new = ⊥
IsStopped f m (Drop file input) entry new = ⊥
IsStopped f m Signal entry new = ⊥
IsStopped f m (Lay address input) entry new = ⊥
IsStopped f m (Poke address bytes) entry new = ⊥
IsStopped f m (Stage address) entry new = ⊥
IsStopped f m Boot entry new = IsStoppedBoot f m entry new
IsStopped f m (Arm after choice) entry new = ⊥
IsStopped f m (Fail nth) entry new = ⊥
IsStopped f m (Reset cold) entry new = ⊥
IsStopped f m Show entry new = ⊥

-- the event may tell this, and then leaves this machine
abbrev pub Step : Formats → InputBytes → Machine → Event → EntryValue → Machine → Type 0
Step f bytes_of m event entry new =
    IsIn (entry, new) (outcome f bytes_of m event ∷ other_outcomes f bytes_of m event)
    ⊎ IsStopped f m event entry new

-- the machine before an event, and the one after it
abbrev pub before_and_after : Formats → InputBytes → Machine → Event → List Machine
before_and_after f bytes_of m event = m ∷ (outcome f bytes_of m event).1 ∷ []

-- the machines of an event that is cut off without an entry
abbrev pub cut_machines : Formats → InputBytes → Machine → Event → List Machine
cut_machines f bytes_of m (Time moment) = before_and_after f bytes_of m (Time moment)
cut_machines f bytes_of m (Drop file input) = before_and_after f bytes_of m (Drop file input)
cut_machines f bytes_of m Signal = before_and_after f bytes_of m Signal
cut_machines f bytes_of m (Lay address input) = before_and_after f bytes_of m (Lay address input)
cut_machines f bytes_of m (Poke address bytes) =
    before_and_after f bytes_of m (Poke address bytes)
cut_machines f bytes_of m (Stage address) = before_and_after f bytes_of m (Stage address)
cut_machines f bytes_of m Boot = flat_map (stops f m) (Sealed ∷ Kept ∷ Lost ∷ [])
cut_machines f bytes_of m (Arm after choice) = before_and_after f bytes_of m (Arm after choice)
cut_machines f bytes_of m (Fail nth) = before_and_after f bytes_of m (Fail nth)
cut_machines f bytes_of m (Reset cold) = before_and_after f bytes_of m (Reset cold)
cut_machines f bytes_of m Show = before_and_after f bytes_of m Show

-- the events may tell this, one entry for each, and then leave this machine
abbrev pub Run :
    Formats → InputBytes → Machine → List Event → List EntryValue → Machine → Type 0
Run f bytes_of m [] [] new = new ≡ m
Run f bytes_of m (event ∷ events) (entry ∷ rest) new =
    (between : Machine) × Step f bytes_of m event entry between
    × Run f bytes_of between events rest new
Run f bytes_of m [] (entry ∷ rest) new = ⊥
Run f bytes_of m (event ∷ events) [] new = ⊥

-- the trace of all events on a platform on which nothing fails
abbrev pub trace_of : Formats → InputBytes → Machine → List Event → List EntryValue
trace_of f bytes_of m [] = []
trace_of f bytes_of m (event ∷ events) =
    (outcome f bytes_of m event).0
    ∷ trace_of f bytes_of (outcome f bytes_of m event).1 events

-- the machine after all events on a platform on which nothing fails
abbrev pub machine_after : Formats → InputBytes → Machine → List Event → Machine
machine_after f bytes_of m [] = m
machine_after f bytes_of m (event ∷ events) =
    machine_after f bytes_of (outcome f bytes_of m event).1 events
