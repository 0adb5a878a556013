-- What a run may answer: when each status comes, and what is written with it. work is the work of
-- the words.
use Rattle.std.specs.Prelude.{◌≡◌, ℕ, ◌+◌, ◌⊎◌, List, [], Option, None, Some, ⊤}
use Rattle.std.specs.Io.KnownBytes.{Keeps}
use Rattle.bench_model.specs.Boards.{BoardValue}
use Rattle.bench_model.specs.declared.counts.Counts.{Counts}
use Rattle.cu_base.specs.Causes.{Rose, RoseBy}
use Rattle.cu_io.specs.Named.{Named, IsMissing}
use Rattle.cu_io.specs.Streams.{SinkSeen, AppendsAll, AppendsFront}
use Rattle.reference_machine.specs.TraceValues.{EntryValue}
use Rattle.reference_machine.specs.declared.event.Event.{Event}
use Rattle.capsule_tool.specs.Answers.{usage, unread, long}
use Rattle.capsule_tool.specs.Findings.{Finding}
use Rattle.capsule_tool.specs.Makes.{long_capsule}
use Rattle.cu_io.specs.Seen.{Seen}
use Rattle.capsule_tool.specs.Played.{played_as, HasFault, MayTell}
use Rattle.capsule_tool.specs.Readings.{MayPassLimit}
use Rattle.capsule_tool.specs.Statuses.{code_of}
use Rattle.capsule_tool.specs.Told.{told}
use Rattle.capsule_tool.specs.Works.{Work, Comes, MayEnd, MayStop, StopsTelling}
use Rattle.capsule_tool.specs.Works.Work.{Finds, Plays, Reads}
use Rattle.capsule_tool.specs.declared.answer.Answer.{Answer}
use Rattle.capsule_tool.specs.declared.command.Command.{Command}
use Rattle.capsule_tool.specs.declared.limits.TheConstants.{MAX_NAMED_BYTES}

-- the answer is written whole and gives the status; or a write failed and the sink's count rose, or
-- memory ran out, and a prefix of it was written
abbrev pub Writes : Answer → ℕ → SinkSeen → SinkSeen → Type 0
Writes answer status out out' =
    ((status ≡ code_of answer.status) × AppendsAll out out' answer.text)
    ⊎ (((status ≡ 5) × Rose out.faults out'.faults × AppendsFront out out' answer.text)
    ⊎ ((status ≡ 6) × AppendsFront out out' answer.text))

-- the told status, trace and text; or memory ran out
abbrev pub AnswersAsTold : Option Named → List (List ℕ) → ℕ → List EntryValue → SinkSeen → SinkSeen
    → Type 0
AnswersAsTold None words status trace out out' = ⊤
AnswersAsTold (Some named) words status trace out out' =
    (status ≡ 6)
    ⊎ ((status ≡ code_of (told words named).answer.status) × (trace ≡ (told words named).trace)
    × AppendsAll out out' (told words named).answer.text)

-- by the bytes alone: inputs hold bytes by which the work finds this status, and that is written
abbrev pub Judges : Work → Option Named → ℕ → List EntryValue → SinkSeen → SinkSeen → Type 0
Judges work named status trace out out' =
    (finding : Finding) × (readings : List (List ℕ)) × Comes named readings work (Finds finding)
    × (code_of finding.answer.status ≡ status) × (trace ≡ finding.trace)
    × AppendsAll out out' finding.answer.text

-- the work comes to a play, and the text of what it told is written
abbrev pub HasPlayed : Work → Option Named → Counts → Counts → List EntryValue → SinkSeen → SinkSeen
    → Type 0
HasPlayed work named counts counts' trace out out' =
    (board : BoardValue) × (events : List Event) × (loaded : Named) × (readings : List (List ℕ))
    × Comes named readings work (Plays board events loaded)
    × MayTell board events loaded counts counts' trace
    × AppendsAll out out' (played_as board events trace).answer.text

-- the work is done: by the bytes alone, or by a play
abbrev pub IsDone : Work → Option Named → Counts → Counts → List EntryValue → SinkSeen → SinkSeen
    → Type 0
IsDone work named counts counts' trace out out' =
    Judges work named 0 trace out out' ⊎ HasPlayed work named counts counts' trace out out'

-- the words have none of the forms
abbrev pub IsUsage : Option Command → SinkSeen → SinkSeen → Type 0
IsUsage command out out' = (command ≡ None) × AppendsAll out out' usage.text

-- the work comes to an input, and the inputs' count rose, or names are told and lack it
abbrev pub IsUnread : Work → Option Named → Seen → Seen → SinkSeen → SinkSeen → Type 0
IsUnread work named before after out out' =
    (limit : ℕ) × (name : List ℕ) × (next : List ℕ → Work) × (readings : List (List ℕ))
    × Comes named readings work (Reads limit name next)
    × (Rose before.faults after.faults ⊎ IsMissing named name)
    × AppendsAll out out' (unread name).text

-- the work comes to an input that is longer than its limit, where names are told; and one byte more
-- than that was taken
abbrev pub IsLongOne : Work → Option Named → Seen → Seen → SinkSeen → SinkSeen → Type 0
IsLongOne work named before after out out' =
    (limit : ℕ) × (name : List ℕ) × (next : List ℕ → Work) × (readings : List (List ℕ))
    × Comes named readings work (Reads limit name next)
    × MayPassLimit named limit name × RoseBy (limit + 1) before.taken after.taken
    × AppendsAll out out' (long name).text

-- an input passes its limit; or inputs hold bytes by which the work finds so: by their sum, and more
-- than the sum's limit was taken, or by the capsule that would be made of them
abbrev pub IsLong : Work → Option Named → Seen → Seen → List EntryValue → SinkSeen → SinkSeen
    → Type 0
IsLong work named before after trace out out' =
    IsLongOne work named before after out out'
    ⊎ (Judges work named 7 trace out out'
    × (RoseBy (MAX_NAMED_BYTES + 1) before.taken after.taken
    ⊎ AppendsAll out out' long_capsule.text))

-- one finding by which the work may end gave the text, the trace, the status and the names asked
-- for, and only work that was done has a trace; or memory ran out before anything was found, and
-- nothing was written
abbrev pub EndsBy : Work → Option Named → Seen → Seen → Counts → Counts → ℕ → List EntryValue
    → SinkSeen → SinkSeen → Type 0
EndsBy work named before after counts counts' status trace out out' =
    ((finding : Finding) × MayEnd named work before after counts counts' finding
    × Writes finding.answer status out out'
    × (trace ≡ finding.trace) × ((trace ≡ []) ⊎ (code_of finding.answer.status ≡ 0)))
    ⊎ ((status ≡ 6) × StopsTelling named work before after counts counts' trace
    × Keeps out.written out'.written × MayStop named work before after)

-- no call of the inputs, of the bench and of the sink failed
pub record IsCalm (before after : Seen) (counts counts' : Counts) (out out' : SinkSeen) : Type 0
  where
    pub inputs : ¬ Rose before.faults after.faults
    pub bench : ¬ HasFault counts counts'
    pub sink : ¬ Rose out.faults out'.faults

-- a trace is empty, or the work was done, a write of it failed or memory ran out
abbrev pub IsTraced : ℕ → List EntryValue → Type 0
IsTraced status trace = (trace ≡ []) ⊎ ((status ≡ 0) ⊎ ((status ≡ 5) ⊎ (status ≡ 6)))
