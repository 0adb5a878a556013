-- What a run finds: its answer, and the trace of its play.
use Rattle.std.specs.Prelude.{ℕ, List, []}
use Rattle.reference_machine.specs.TraceValues.{EntryValue}
use Rattle.capsule_tool.specs.declared.answer.Answer.{Answer}

-- the answer, and what a play told of its events
pub record Finding : Type 0 where
  pub answer : Answer
  pub trace : List EntryValue

-- an answer without a play
abbrev pub bare : Answer → Finding
bare answer = record { answer = answer; trace = [] }

-- how a run ends: its status, and what a play told of its events
pub record Ending : Type 0 where
  pub status : ℕ
  pub trace : List EntryValue
