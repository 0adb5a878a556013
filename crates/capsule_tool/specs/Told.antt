-- The whole program: its work and what it finds, by its words and its inputs.
use Rattle.std.specs.Prelude.{ℕ, List, [], slice_index_or, Option, None, Some}
use Rattle.cu_io.specs.Named.{Named}
use Rattle.capsule_tool.specs.Answers.{usage, later}
use Rattle.capsule_tool.specs.Files.{check_work, rebuild_work, show_work}
use Rattle.capsule_tool.specs.Findings.{Finding, bare}
use Rattle.capsule_tool.specs.Commands.{command_of}
use Rattle.capsule_tool.specs.Makes.{make_work}
use Rattle.capsule_tool.specs.Plays.{play_work}
use Rattle.capsule_tool.specs.Works.{Work, told_by}
use Rattle.capsule_tool.specs.Works.Work.{Finds}
use Rattle.capsule_tool.specs.declared.command.Command.{Command}
use Rattle.capsule_tool.specs.declared.command.Command.TheVariants.{Check, Show, Rebuild, Make}
use Rattle.capsule_tool.specs.declared.command.Command.TheVariants.{Play, Load}

-- a word by its place
abbrev pub word : List (List ℕ) → ℕ → List ℕ
word words k = slice_index_or words k []

-- the work of the words, by their command
abbrev pub work_by : Option Command → List (List ℕ) → Work
work_by None words = Finds (bare usage)
work_by (Some Check) words = check_work (word words 1)
work_by (Some Show) words = show_work (word words 1)
work_by (Some Rebuild) words = rebuild_work (word words 1)
work_by (Some Make) words = make_work (word words 1)
work_by (Some Play) words = play_work (word words 1) (word words 2)
work_by (Some Load) words = Finds (bare (later (word words 0)))

-- the work of the words
abbrev pub work_of : List (List ℕ) → Work
work_of words = work_by (command_of words) words

-- what the program finds where inputs are told and no call fails
abbrev pub told : List (List ℕ) → Named → Finding
told words named = told_by named (work_of words)
