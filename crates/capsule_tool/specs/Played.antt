-- What a play finds: what it told of its events, and the text of that.
use Rattle.std.specs.Prelude.{◌≡◌, ◌⊎◌, ℕ, List, ◌++◌, map}
use Rattle.bench_model.specs.Boards.{BoardValue}
use Rattle.bench_model.specs.declared.counts.Counts.{Counts}
use Rattle.cu_base.specs.Causes.{Rose}
use Rattle.cu_io.specs.Named.{Named}
use Rattle.reset_play.specs.Plays.{thin_trace}
use Rattle.reset_play.specs.Texts.{trace_text}
use Rattle.reference_machine.specs.TraceValues.{EntryValue}
use Rattle.reference_machine.specs.declared.event.Event.{Event}
use Rattle.capsule_tool.specs.Findings.{Finding}
use Rattle.capsule_tool.specs.declared.status.Status.TheVariants.{Done}

-- a play that told this of its events
abbrev pub played_as : BoardValue → List Event → List EntryValue → Finding
played_as board events trace = record {
  answer = record {
    status = Done;
    text = trace_text board events (map (λ said. said.answer) trace);
  };
  trace = trace;
}

-- the play of these events over the inputs that were read, where no call of the bench fails
abbrev pub played : BoardValue → List Event → Named → Finding
played board events loaded = played_as board events (thin_trace board loaded events)

-- a call of the flash or of the volume failed between these counts of a bench
abbrev pub HasFault : Counts → Counts → Type 0
HasFault before after =
    Rose before.flash_faults after.flash_faults ⊎ Rose before.volume_faults after.volume_faults

-- a play may tell this: what the reference machine tells, but where a call of the bench failed
abbrev pub MayTell : BoardValue → List Event → Named → Counts → Counts → List EntryValue → Type 0
MayTell board events loaded before after trace =
    HasFault before after ⊎ (trace ≡ thin_trace board loaded events)

-- a play in which memory ran out may have told this: the front of that
abbrev pub MayHaveTold : BoardValue → List Event → Named → Counts → Counts → List EntryValue
    → Type 0
MayHaveTold board events loaded before after trace =
    HasFault before after
    ⊎ ((rest : List EntryValue) × (trace ++ rest ≡ thin_trace board loaded events))
