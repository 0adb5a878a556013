-- What a play tells, as values: the entries of a trace without the room that their lists keep.
use Rattle.std.specs.Prelude.{ℕ, List, Option}
use Rattle.reference_machine.specs.declared.snapshot.CapsuleResult.{CapsuleResult}
use Rattle.report_tables.specs.declared.esrt.EsrtEntry.{EsrtEntry}
use Rattle.reference_machine.specs.declared.snapshot.FolderFile.{FolderFile}
use Rattle.reference_machine.specs.declared.snapshot.Snapshot.{Snapshot}
use Rattle.reference_machine.specs.declared.snapshot.StagedPair.{StagedPair}
use Rattle.reference_machine.specs.declared.trace.Answer.{Answer}
use Rattle.reference_machine.specs.declared.trace.Answer.TheVariants as answers
use Rattle.reference_machine.specs.declared.trace.BootEnd.{BootEnd}
use Rattle.reference_machine.specs.declared.trace.Entry.{Entry}
use Rattle.reference_machine.specs.Report.{ReportValue, report_value}

-- what the platform shows
pub record SnapshotValue : Type 0 where
  pub esrt : List EsrtEntry
  pub results : List CapsuleResult
  pub last : Option ℕ
  pub files : List FolderFile
  pub staged : List StagedPair

-- an answer
pub data AnswerValue : Type 0 where
  Done : AnswerValue
  Serial : (serial : ℕ) → AnswerValue
  FlashFault : AnswerValue
  VolumeFault : AnswerValue
  NoBank : AnswerValue
  Full : AnswerValue
  Wraps : AnswerValue
  Invalid : AnswerValue
  Unsupported : AnswerValue
  Resources : AnswerValue
  Booted : (report : ReportValue) → (end : BootEnd) → AnswerValue
  Shown : (snapshot : SnapshotValue) → AnswerValue

-- an entry of a trace
pub record EntryValue : Type 0 where
  pub opened : Option ℕ
  pub pending : Option ℕ
  pub answer : AnswerValue

-- a snapshot as a value
abbrev pub snapshot_value : Snapshot → SnapshotValue
snapshot_value s = record {
  esrt = s.esrt.items;
  results = s.results.items;
  last = s.last;
  files = s.files.items;
  staged = s.staged.items;
}

-- an answer as a value
abbrev pub answer_value : Answer → AnswerValue
answer_value answers.Done = Done
answer_value (answers.Serial serial) = Serial serial
answer_value answers.FlashFault = FlashFault
answer_value answers.VolumeFault = VolumeFault
answer_value answers.NoBank = NoBank
answer_value answers.Full = Full
answer_value answers.Wraps = Wraps
answer_value answers.Invalid = Invalid
answer_value answers.Unsupported = Unsupported
answer_value answers.Resources = Resources
answer_value (answers.Booted report end) = Booted (report_value report) end
answer_value (answers.Shown snapshot) = Shown (snapshot_value snapshot)

-- an entry as a value
abbrev pub entry_value : Entry → EntryValue
entry_value e = record { opened = e.opened; pending = e.pending; answer = answer_value e.answer }
