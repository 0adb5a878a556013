-- What a reader of scripts answers: what the definition says, unless memory ran out.
use Rattle.std.specs.Prelude.{◌≡◌, Result, Ok, Err}
use Rattle.cu_base.specs.Kept.{Kept}
use Rattle.reference_machine.specs.declared.event.Event.{Event}
use Rattle.reset_play.specs.declared.script.faults.LineFault.{LineFault}
use Rattle.reset_play.specs.declared.script.faults.LineFault.TheVariants as line
use Rattle.reset_play.specs.declared.script.faults.ScriptFault.{ScriptFault}
use Rattle.reset_play.specs.declared.script.faults.ScriptFault.TheVariants as script
use Rattle.reset_play.specs.declared.script.faults.ScriptKind.{ScriptKind}
use Rattle.reset_play.specs.ScriptText.{ScriptSaid}

-- an answer gives what is said
abbrev pub Gives : {X : Type 0} → Result X LineFault → Result X ScriptKind → Type 0
Gives (Ok x) said = said ≡ Ok x
Gives (Err (line.Refused kind)) said = said ≡ Err kind
Gives (Err line.Memory) said = Unit {0}

-- a fault is the one that is said
abbrev pub Refuses : ScriptFault → ScriptSaid → Type 0
Refuses (script.Bad at why) said = said ≡ Err (at, why)
Refuses script.Memory said = Unit {0}

-- the answer is the script that the text says, or its first fault
abbrev pub GivesScript : Result (Kept Event) ScriptFault → ScriptSaid → Type 0
GivesScript (Ok read) said = said ≡ Ok read.items
GivesScript (Err fault) said = Refuses fault said
