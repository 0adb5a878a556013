-- The program in plain words: what stands under the names of its words, without the tree of work.
use Rattle.std.specs.Prelude.{◌≡◌, ◌≤◌, ◌⊎◌, ◌&&◌, not, IsTrue, ℕ, List, length, sum_by, Option, Some}
use Rattle.std.specs.Prelude.{Ok, Err}
use Rattle.std.specs.List.{list_all, AllByRecursion}
use Rattle.bench_model.specs.Boards.{BoardValue}
use Rattle.cu_base.specs.declared.limits.TheConstants.{MAX_CAPSULE_BYTES}
use Rattle.cu_io.specs.Named.{Named, bytes_named}
use Rattle.recipe_files.specs.Boards.{board_text}
use Rattle.recipe_files.specs.RecipeTexts.{recipe_text}
use Rattle.recipe_files.specs.declared.faults.BadKind.{BadKind}
use Rattle.reset_play.specs.Plays.{has_one_device, is_of_files, is_thin_on, loaded_bytes}
use Rattle.reset_play.specs.ScriptInputs.{inputs_of}
use Rattle.reset_play.specs.ScriptText.{script_said}
use Rattle.reset_play.specs.declared.script.faults.ScriptKind.{ScriptKind}
use Rattle.reference_machine.specs.declared.event.Event.{Event}
use Rattle.capsule_tool.specs.Answers.{faulty_board, faulty_recipe, faulty_script}
use Rattle.capsule_tool.specs.Commands.{command_of}
use Rattle.capsule_tool.specs.Files.{verdict_answer}
use Rattle.capsule_tool.specs.Names.{file_kind, script_kind}
use Rattle.capsule_tool.specs.Told.{word}
use Rattle.capsule_tool.specs.Verdicts.{verdict_of}
use Rattle.capsule_tool.specs.declared.answer.Answer.{Answer}
use Rattle.capsule_tool.specs.declared.command.Command.{Command}
use Rattle.capsule_tool.specs.declared.command.Command.TheVariants.{Check, Show, Rebuild, Make, Play}
use Rattle.capsule_tool.specs.declared.limits.TheConstants.{MAX_TEXT_BYTES, MAX_NAMED_BYTES}

-- these bytes stand under this name, within a limit
abbrev pub IsThere : Named → ℕ → List ℕ → List ℕ → Type 0
IsThere named limit name bytes = (bytes_named named name ≡ Some bytes) × (length bytes ≤ limit)

-- what stands under this name can be delivered in a play on lists
abbrev pub IsPlayable : BoardValue → Named → List ℕ → Type 0
IsPlayable board named name =
    (bytes : List ℕ) × IsThere named MAX_CAPSULE_BYTES name bytes × IsTrue (is_thin_on board bytes)

-- the words of a play whose texts are accepted, and whose inputs are there within their limits
pub record IsPlay (words : List (List ℕ)) (named : Named) (board : BoardValue) (events : List Event)
    : Type 0 where
  pub command : command_of words ≡ Some Play
  pub boards : (bytes : List ℕ) × IsThere named MAX_TEXT_BYTES (word words 1) bytes
      × (board_text bytes ≡ Ok board)
  pub scripts : (bytes : List ℕ) × IsThere named MAX_TEXT_BYTES (word words 2) bytes
      × (script_said bytes ≡ Ok events)
  pub one : IsTrue (has_one_device board && not board.two_banks)
  pub files : IsTrue (list_all is_of_files events)
  pub inputs : AllByRecursion (IsPlayable board named) (inputs_of events)
  pub sum : sum_by (λ name. length (loaded_bytes named name)) (inputs_of events) ≤ MAX_NAMED_BYTES

-- a command on the file of a capsule
abbrev pub IsOfCapsule : Option Command → Type 0
IsOfCapsule command =
    (command ≡ Some Check) ⊎ ((command ≡ Some Show) ⊎ (command ≡ Some Rebuild))

-- the answer tells the verdict on the file of a capsule
abbrev pub TellsVerdict : List (List ℕ) → Named → Answer → Type 0
TellsVerdict words named answer =
    IsOfCapsule (command_of words)
    × ((bytes : List ℕ) × IsThere named MAX_CAPSULE_BYTES (word words 1) bytes
    × (answer ≡ verdict_answer (verdict_of bytes)))

-- the recipe is refused, and the answer tells its first fault
abbrev pub TellsRecipe : List (List ℕ) → Named → Answer → Type 0
TellsRecipe words named answer =
    (command_of words ≡ Some Make)
    × ((bytes : List ℕ) × (fault : BadKind × List ℕ)
    × IsThere named MAX_TEXT_BYTES (word words 1) bytes × (recipe_text bytes ≡ Err fault)
    × (answer ≡ faulty_recipe (file_kind fault.0) fault.1))

-- the board is refused, and the answer tells its first fault
abbrev pub TellsBoard : List (List ℕ) → Named → Answer → Type 0
TellsBoard words named answer =
    (command_of words ≡ Some Play)
    × ((bytes : List ℕ) × (fault : BadKind × List ℕ)
    × IsThere named MAX_TEXT_BYTES (word words 1) bytes × (board_text bytes ≡ Err fault)
    × (answer ≡ faulty_board (file_kind fault.0) fault.1))

-- the script is refused, and the answer tells its first fault
abbrev pub TellsScript : List (List ℕ) → Named → Answer → Type 0
TellsScript words named answer =
    (command_of words ≡ Some Play)
    × ((bytes : List ℕ) × (fault : ℕ × ScriptKind)
    × IsThere named MAX_TEXT_BYTES (word words 2) bytes × (script_said bytes ≡ Err fault)
    × (answer ≡ faulty_script fault.0 (script_kind fault.1)))

-- a text is refused, and the answer tells its first fault
abbrev pub TellsFault : List (List ℕ) → Named → Answer → Type 0
TellsFault words named answer =
    TellsRecipe words named answer
    ⊎ (TellsBoard words named answer ⊎ TellsScript words named answer)
