-- The names of the faults of boards, recipes and scripts, as they are printed.
use Rattle.std.specs.Prelude.{ℕ, List, codes}
use Rattle.recipe_files.specs.declared.faults.BadKind.{BadKind}
use Rattle.recipe_files.specs.declared.faults.BadKind.TheVariants.{BadToml, MissingKey, WrongKind}
use Rattle.recipe_files.specs.declared.faults.BadKind.TheVariants.{OutOfRange, BadGuid, Repeated}
use Rattle.recipe_files.specs.declared.faults.BadKind.TheVariants.{BankTooSmall}
use Rattle.reset_play.specs.declared.script.faults.ScriptKind.{ScriptKind}
use Rattle.reset_play.specs.declared.script.faults.ScriptKind.TheVariants.{BadText, BadEvent}
use Rattle.reset_play.specs.declared.script.faults.ScriptKind.TheVariants.{BadOperand, TooMany}

-- of a board or a recipe
abbrev pub file_kind : BadKind → List ℕ
file_kind BadToml = codes "BadToml"
file_kind MissingKey = codes "MissingKey"
file_kind WrongKind = codes "WrongKind"
file_kind OutOfRange = codes "OutOfRange"
file_kind BadGuid = codes "BadGuid"
file_kind Repeated = codes "Repeated"
file_kind BankTooSmall = codes "BankTooSmall"

-- of a script
abbrev pub script_kind : ScriptKind → List ℕ
script_kind BadText = codes "BadText"
script_kind BadEvent = codes "BadEvent"
script_kind BadOperand = codes "BadOperand"
script_kind TooMany = codes "TooMany"
