-- The inputs of a play by their names, and what its events need.
use Rattle.std.specs.Prelude.{ℕ, ◌≤◌, List, [], length, unwrap_or, IsTrue, IsSome}
use Rattle.std.specs.List.{AllByRecursion}
use Rattle.bench_model.specs.Files.{is_file_name}
use Rattle.bench_model.specs.declared.outside_limits.TheConstants.{MAX_FILE_BYTES}
use Rattle.cu_io.specs.Named.{Named, bytes_named}
use Rattle.reference_machine.specs.declared.event.Event.{Event}
use Rattle.reference_machine.specs.declared.event.Event.TheVariants.{Time, Drop, Signal, Lay, Poke}
use Rattle.reference_machine.specs.declared.event.Event.TheVariants.{Stage, Boot, Arm, Fail, Reset}
use Rattle.reference_machine.specs.declared.event.Event.TheVariants.{Show}
use Rattle.reference_machine.specs.Events.{InputBytes}

-- the bytes of a loaded name, none where it is not loaded
abbrev pub input_bytes : Named → InputBytes
input_bytes named name = unwrap_or (bytes_named named name) []

-- a name is loaded
abbrev pub IsLoaded : Named → List ℕ → Type 0
IsLoaded named name = IsSome (bytes_named named name)

-- a file of a drop has the name of a file, and its input is loaded and no longer than a file
pub record CanDrop (named : Named) (file input : List ℕ) : Type 0 where
  pub name : IsTrue (is_file_name file)
  pub there : IsLoaded named input
  pub size : length (input_bytes named input) ≤ MAX_FILE_BYTES

-- what an event needs: its input is loaded, a file is within its limits, and the calls that are to
-- fail are counted from 1
abbrev pub IsPlayable : Named → Event → Type 0
IsPlayable named (Time moment) = Unit {0}
IsPlayable named (Drop file input) = CanDrop named file input
IsPlayable named Signal = Unit {0}
IsPlayable named (Lay at input) = IsLoaded named input
IsPlayable named (Poke at bytes) = Unit {0}
IsPlayable named (Stage at) = Unit {0}
IsPlayable named Boot = Unit {0}
IsPlayable named (Arm after choice) = Unit {0}
IsPlayable named (Fail nth) = 1 ≤ nth
IsPlayable named (Reset cold) = Unit {0}
IsPlayable named Show = Unit {0}

-- each event has what it needs
abbrev pub ArePlayable : Named → List Event → Type 0
ArePlayable named events = AllByRecursion (IsPlayable named) events
