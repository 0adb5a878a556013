-- The work of a play: the board is read and parsed, then the script, then the inputs that the
-- script names, each once in order of first mention. The first failure decides.
use Rattle.std.specs.Prelude.{◌≡◌, ◌&&◌, not, IsTrue, ℕ, ◌+◌, nat_lt, List, [], ◌∷◌, ◌++◌, length}
use Rattle.std.specs.Prelude.{map, Result}
use Rattle.std.specs.Prelude.{Ok, Err, if◌then◌else◌}
use Rattle.std.specs.List.{list_all}
use Rattle.bench_model.specs.Boards.{BoardValue}
use Rattle.cu_base.specs.declared.limits.TheConstants.{MAX_CAPSULE_BYTES}
use Rattle.cu_io.specs.Named.{Named}
use Rattle.recipe_files.specs.Boards.{board_text}
use Rattle.recipe_files.specs.declared.faults.BadKind.{BadKind}
use Rattle.reset_play.specs.Plays.{has_one_device, is_of_files, is_thin_on}
use Rattle.reset_play.specs.ScriptInputs.{inputs_of}
use Rattle.reset_play.specs.ScriptText.{ScriptSaid, script_said}
use Rattle.reference_machine.specs.declared.event.Event.{Event}
use Rattle.capsule_tool.specs.declared.limits.TheConstants.{MAX_TEXT_BYTES, MAX_NAMED_BYTES}
use Rattle.capsule_tool.specs.Answers.{faulty_board, faulty_script, later, long}
use Rattle.capsule_tool.specs.Findings.{bare}
use Rattle.capsule_tool.specs.Loads.{Loading, loads_work}
use Rattle.capsule_tool.specs.Names.{file_kind, script_kind}
use Rattle.capsule_tool.specs.Works.{Work}
use Rattle.capsule_tool.specs.Works.Work.{Finds, Plays, Reads}

-- what is done with an input by its bytes, where those before it are loaded and have this many
-- bytes in sum: rest goes on
abbrev pub input_next : BoardValue → Named → ℕ → List ℕ → (Named → ℕ → Work) → List ℕ → Work
input_next board loaded sum name rest bytes =
    if nat_lt MAX_NAMED_BYTES (sum + length bytes) then Finds (bare (long name))
    else if is_thin_on board bytes then rest (loaded ++ (name, bytes) ∷ []) (sum + length bytes)
    else Finds (bare (later name))

-- an input is read, and that is done
abbrev pub input_work : BoardValue → Loading
input_work board loaded sum name rest = Reads MAX_CAPSULE_BYTES name
    (input_next board loaded sum name rest)

-- the inputs of these names, one after the other
abbrev pub inputs_work : BoardValue → List Event → Named → ℕ → List (List ℕ) → Work
inputs_work board events = loads_work (input_work board) (Plays board events)

-- the inputs that these events name
abbrev pub events_work : BoardValue → List Event → Work
events_work board events = inputs_work board events [] 0 (inputs_of events)

-- what is done by what the script of this name says
abbrev pub script_next : BoardValue → List ℕ → ScriptSaid → Work
script_next board name (Err fault) = Finds (bare (faulty_script fault.0 (script_kind fault.1)))
script_next board name (Ok events) =
    if list_all is_of_files events then events_work board events else Finds (bare (later name))

-- the script is read, and that is done
abbrev pub script_work : BoardValue → List ℕ → Work
script_work board name = Reads MAX_TEXT_BYTES name
    (λ bytes. script_next board name (script_said bytes))

-- what is done by what the board of this name says; plays of several devices, and of devices with
-- two banks, are to be built
abbrev pub board_next : List ℕ → List ℕ → Result BoardValue (BadKind × List ℕ) → Work
board_next name script (Err fault) = Finds (bare (faulty_board (file_kind fault.0) fault.1))
board_next name script (Ok board) =
    if has_one_device board && not board.two_banks
    then script_work board script
    else Finds (bare (later name))

-- the board is read, and that is done
abbrev pub play_work : List ℕ → List ℕ → Work
play_work board script = Reads MAX_TEXT_BYTES board
    (λ bytes. board_next board script (board_text bytes))

-- the inputs that are loaded are those of these names, in order
abbrev pub AreNamed : List (List ℕ) → Named → Type 0
AreNamed names loaded = map (λ pair. pair.0) loaded ≡ names

-- one more input was loaded, of this name
abbrev pub IsOneMore : List ℕ → Named → Named → Type 0
IsOneMore name before after =
    map (λ pair. pair.0) after ≡ map (λ pair. pair.0) before ++ name ∷ []

-- each input that is loaded is thin for the board
abbrev pub AreThinOn : BoardValue → Named → Type 0
AreThinOn board loaded = IsTrue (list_all (λ pair. is_thin_on board pair.1) loaded)
