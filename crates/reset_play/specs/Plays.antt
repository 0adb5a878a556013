-- A play on lists: a board of one device, and a script whose events are drop, signal and boot, over
-- thin inputs.
use Rattle.std.specs.Prelude.{ℕ, Bool, true, false, ◌&&◌, ◌==◌, List, [], length, unwrap_or}
use Rattle.std.specs.List.{list_any}
use Rattle.bench_model.specs.Boards.{BoardValue}
use Rattle.cu_io.specs.Named.{Named, bytes_named}
use Rattle.reference_machine.specs.declared.event.Event.{Event}
use Rattle.reference_machine.specs.declared.event.Event.TheVariants.{Time, Drop, Signal, Lay, Poke}
use Rattle.reference_machine.specs.declared.event.Event.TheVariants.{Stage, Boot, Arm, Fail, Reset}
use Rattle.reference_machine.specs.declared.event.Event.TheVariants.{Show}
use Rattle.reference_machine.specs.Deliveries.{is_target}
use Rattle.reference_machine.specs.Events.{trace_of}
use Rattle.reference_machine.specs.Machine.{fresh}
use Rattle.delivery_formats.specs.TrueFormats.{true_formats}
use Rattle.reset_play.specs.Thin.{thin_item, is_thin}
use Rattle.reference_machine.specs.TraceValues.{EntryValue}

-- the board has one device
abbrev pub has_one_device : BoardValue → Bool
has_one_device board = length board.devices == 1

-- an event of files alone
abbrev pub is_of_files : Event → Bool
is_of_files (Time moment) = false
is_of_files (Drop file input) = true
is_of_files Signal = true
is_of_files (Lay at input) = false
is_of_files (Poke at bytes) = false
is_of_files (Stage at) = false
is_of_files Boot = true
is_of_files (Arm after choice) = false
is_of_files (Fail nth) = false
is_of_files (Reset cold) = false
is_of_files Show = false

-- a thin delivery that has a target on the board
abbrev pub is_thin_on : BoardValue → List ℕ → Bool
is_thin_on board bytes = is_thin bytes && list_any (is_target (thin_item bytes).head) board.devices

-- the bytes of a loaded name, none where it is not loaded
abbrev pub loaded_bytes : Named → List ℕ → List ℕ
loaded_bytes named name = unwrap_or (bytes_named named name) []

-- what an event of files needs: the input of a drop is loaded, thin, and has a target
abbrev pub can_play : BoardValue → Named → Event → Bool
can_play board named (Time moment) = false
can_play board named (Drop file input) = is_thin_on board (loaded_bytes named input)
can_play board named Signal = true
can_play board named (Lay at input) = false
can_play board named (Poke at bytes) = false
can_play board named (Stage at) = false
can_play board named Boot = true
can_play board named (Arm after choice) = false
can_play board named (Fail nth) = false
can_play board named (Reset cold) = false
can_play board named Show = false

-- what the reference machine tells of the events, from a fresh board
abbrev pub thin_trace : BoardValue → Named → List Event → List EntryValue
thin_trace board named events = trace_of true_formats (loaded_bytes named) (fresh board) events
