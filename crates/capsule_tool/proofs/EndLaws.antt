-- What follows for each status from how a run may end, and what it wrote.
use Rattle.std.proofs.Common.{◌≡◌, ◌≢◌, ℕ, ◌⊎◌, inl, inr, List, [], Option, None, Some, refl, sym}
use Rattle.std.proofs.Common.{◌∙◌, ap, arith}
use Rattle.bench_model.specs.Boards.{BoardValue}
use Rattle.bench_model.specs.declared.counts.Counts.{Counts}
use Rattle.cu_base.specs.Causes.{Rose}
use Rattle.cu_io.specs.Named.{Named}
use Rattle.cu_io.specs.Seen.{Seen}
use Rattle.cu_io.specs.Streams.{SinkSeen}
use Rattle.reference_machine.specs.TraceValues.{EntryValue}
use Rattle.reference_machine.specs.declared.event.Event.{Event}
use Rattle.reset_play.specs.Plays.{thin_trace}
use Rattle.capsule_tool.specs.Commands.{command_of}
use Rattle.capsule_tool.specs.Findings.{Finding}
use Rattle.capsule_tool.specs.Played.{played_as, HasFault, MayTell}
use Rattle.capsule_tool.specs.Runs.{Writes, AnswersAsTold, IsCalm, IsDone, IsUsage, IsUnread, IsLong}
use Rattle.capsule_tool.specs.Runs.{Judges, EndsBy}
use Rattle.capsule_tool.specs.Statuses.{code_of}
use Rattle.capsule_tool.specs.Told.{work_of}
use Rattle.capsule_tool.specs.Works.{Work, told_by, MayPlay, MayEnd}
use Rattle.capsule_tool.specs.Works.Work.{Plays}
use Rattle.capsule_tool.proofs.RunLaws.{told_on, found_told, exact, code_at, written_as, appends_as}
use Rattle.capsule_tool.proofs.RunLaws.{judged_run, usage_run, unread_run, long_run, unwritten_run}
use Rattle.capsule_tool.proofs.RunLaws.{traced}

-- what a play found is work that was done
play_code : (named : Option Named) (w0 : Work) (b a : Seen) (k k' : Counts) (finding : Finding)
    → MayPlay named w0 b a k k' finding → code_of finding.answer.status ≡ 0
play_code named w0 b a k k' finding (board, events, loaded, trace, comes, tells, is) =
    code_at finding (played_as board events trace) is

no_play : (named : Option Named) (w0 : Work) (b a : Seen) (k k' : Counts) (finding : Finding)
    (status n : ℕ) (w w' : SinkSeen)
    → MayPlay named w0 b a k k' finding → Writes finding.answer status w w' → status ≡ n → n ≢ 0
    → n ≢ 5 → n ≢ 6 → ⊥
no_play named w0 b a k k' finding status n w w' play writes is not0 not5 not6 =
    not0 (sym (written_as finding.answer status n w w' writes is not5 not6).0
    ∙ play_code named w0 b a k k' finding play)

-- where nothing outside fails
told_trace : (board : BoardValue) (events : List Event) (loaded : Named) (k k' : Counts)
    (trace : List EntryValue) → MayTell board events loaded k k' trace → ¬ HasFault k k'
    → trace ≡ thin_trace board loaded events
told_trace board events loaded k k' trace (inl fault) calm = absurd (calm fault)
told_trace board events loaded k k' trace (inr is) calm = is

end_told : (named : Named) (w0 : Work) (b a : Seen) (k k' : Counts) (finding : Finding)
    → MayEnd (Some named) w0 b a k k' finding → ¬ Rose b.faults a.faults → ¬ HasFault k k'
    → finding ≡ told_by named w0
end_told named w0 b a k k' finding (inl found) calm steady = found_told named w0 b a finding found calm
end_told named w0 b a k k' finding
    (inr (board, events, loaded, trace, (readings, comes, took), tells, is)) calm steady =
    is ∙ (ap (played_as board events) (told_trace board events loaded k k' trace tells steady)
    ∙ told_on named readings w0 (Plays board events loaded) comes)

pub as_told : (named : Option Named) (words : List (List ℕ)) (b a : Seen) (k k' : Counts)
    (finding : Finding) (status : ℕ) (w w' : SinkSeen)
    → MayEnd named (work_of words) b a k k' finding → Writes finding.answer status w w'
    → IsCalm b a k k' w w'
    → AnswersAsTold named words status finding.trace w w'
as_told None words b a k k' finding status w w' ends writes calm = tt
as_told (Some named) words b a k k' finding status w w' ends writes calm =
    exact words named b a finding status w w'
    (end_told named (work_of words) b a k k' finding ends calm.inputs calm.bench) writes calm.sink

-- the statuses
done_play : (named : Option Named) (w0 : Work) (b a : Seen) (k k' : Counts) (finding : Finding)
    (status : ℕ) (w w' : SinkSeen)
    → MayPlay named w0 b a k k' finding → Writes finding.answer status w w' → status ≡ 0
    → IsDone w0 named k k' finding.trace w w'
done_play named w0 b a k k' finding status w w'
    (board, events, loaded, trace, (readings, comes, took), tells, is) writes zero =
    let (code, appends) = written_as finding.answer status 0 w w' writes zero (omega arith)
    (omega arith) in
    let same : finding.trace ≡ trace = ap (λ (x : Finding). x.trace) is in
    rw same
    (inr (
      board,
      events,
      loaded,
      readings,
      comes,
      tells,
      appends_as finding (played_as board events trace) w w' is appends,
    ))

pub done_end : (named : Option Named) (w0 : Work) (b a : Seen) (k k' : Counts) (finding : Finding)
    (status : ℕ) (w w' : SinkSeen)
    → MayEnd named w0 b a k k' finding → Writes finding.answer status w w' → status ≡ 0
    → IsDone w0 named k k' finding.trace w w'
done_end named w0 b a k k' finding status w w' (inl found) writes is =
    inl (judged_run named w0 b a finding status 0 w w' found writes is (omega arith) (omega arith)
    (omega arith) (omega arith))
done_end named w0 b a k k' finding status w w' (inr play) writes is =
    done_play named w0 b a k k' finding status w w' play writes is

pub judged_end : (named : Option Named) (w0 : Work) (b a : Seen) (k k' : Counts) (finding : Finding)
    (status n : ℕ) (w w' : SinkSeen)
    → MayEnd named w0 b a k k' finding → Writes finding.answer status w w' → status ≡ n → n ≢ 0
    → n ≢ 4 → n ≢ 5 → n ≢ 6 → n ≢ 7
    → Judges w0 named n finding.trace w w'
judged_end named w0 b a k k' finding status n w w' (inl found) writes is not0 not4 not5 not6 not7 =
    judged_run named w0 b a finding status n w w' found writes is not4 not5 not6 not7
judged_end named w0 b a k k' finding status n w w' (inr play) writes is not0 not4 not5 not6 not7 =
    absurd (no_play named w0 b a k k' finding status n w w' play writes is not0 not5 not6)

pub usage_end : (named : Option Named) (words : List (List ℕ)) (b a : Seen) (k k' : Counts)
    (finding : Finding) (status : ℕ) (w w' : SinkSeen)
    → MayEnd named (work_of words) b a k k' finding → Writes finding.answer status w w'
    → status ≡ 2 → IsUsage (command_of words) w w'
usage_end named words b a k k' finding status w w' (inl found) writes is =
    usage_run named words b a finding status w w' found writes is
usage_end named words b a k k' finding status w w' (inr play) writes is =
    absurd (no_play named (work_of words) b a k k' finding status 2 w w' play writes is (omega arith)
    (omega arith) (omega arith))

pub unread_end : (named : Option Named) (words : List (List ℕ)) (b a : Seen) (k k' : Counts)
    (finding : Finding) (status : ℕ) (w w' : SinkSeen)
    → MayEnd named (work_of words) b a k k' finding → Writes finding.answer status w w'
    → status ≡ 4 → IsUnread (work_of words) named b a w w'
unread_end named words b a k k' finding status w w' (inl found) writes is =
    unread_run named words b a finding status w w' found writes is
unread_end named words b a k k' finding status w w' (inr play) writes is =
    absurd (no_play named (work_of words) b a k k' finding status 4 w w' play writes is (omega arith)
    (omega arith) (omega arith))

pub long_end : (named : Option Named) (words : List (List ℕ)) (b a : Seen) (k k' : Counts)
    (finding : Finding) (status : ℕ) (w w' : SinkSeen)
    → MayEnd named (work_of words) b a k k' finding → Writes finding.answer status w w'
    → status ≡ 7 → IsLong (work_of words) named b a finding.trace w w'
long_end named words b a k k' finding status w w' (inl found) writes is =
    long_run named words b a finding status w w' found writes is
long_end named words b a k k' finding status w w' (inr play) writes is =
    absurd (no_play named (work_of words) b a k k' finding status 7 w w' play writes is (omega arith)
    (omega arith) (omega arith))

unwritten_play : (named : Option Named) (w0 : Work) (b a : Seen) (k k' : Counts) (finding : Finding)
    (status : ℕ) (w w' : SinkSeen)
    → MayPlay named w0 b a k k' finding → Writes finding.answer status w w' → status ≡ 5
    → Rose w.faults w'.faults
unwritten_play named w0 b a k k' finding status w w' play (inl (same, appends)) is =
    absurd (omega (arith, same, is, play_code named w0 b a k k' finding play))
unwritten_play named w0 b a k k' finding status w w' play (inr (inl (same, rose, front))) is = rose
unwritten_play named w0 b a k k' finding status w w' play (inr (inr (same, front))) is =
    absurd (omega (arith, same, is))

pub unwritten_end : (named : Option Named) (words : List (List ℕ)) (b a : Seen) (k k' : Counts)
    (finding : Finding) (status : ℕ) (w w' : SinkSeen)
    → MayEnd named (work_of words) b a k k' finding → Writes finding.answer status w w'
    → status ≡ 5 → Rose w.faults w'.faults
unwritten_end named words b a k k' finding status w w' (inl found) writes is =
    unwritten_run named words b a finding status w w' found writes is
unwritten_end named words b a k k' finding status w w' (inr play) writes is =
    unwritten_play named (work_of words) b a k k' finding status w w' play writes is

-- only work that was done has a trace
has_trace : (named : Option Named) (words : List (List ℕ)) (b a : Seen) (k k' : Counts)
    (finding : Finding) → MayEnd named (work_of words) b a k k' finding
    → (finding.trace ≡ []) ⊎ (code_of finding.answer.status ≡ 0)
has_trace named words b a k k' finding (inl found) = inl (traced named words b a finding found)
has_trace named words b a k k' finding (inr play) =
    inr (play_code named (work_of words) b a k k' finding play)

pub found_end : (named : Option Named) (words : List (List ℕ)) (b a : Seen) (k k' : Counts)
    (finding : Finding) (status : ℕ) (w w' : SinkSeen)
    → MayEnd named (work_of words) b a k k' finding → Writes finding.answer status w w'
    → EndsBy (work_of words) named b a k k' status finding.trace w w'
found_end named words b a k k' finding status w w' ends writes =
    inl (finding, ends, writes, refl, has_trace named words b a k k' finding ends)

traced_by : (finding : Finding) (status : ℕ) (w w' : SinkSeen)
    → (finding.trace ≡ []) ⊎ (code_of finding.answer.status ≡ 0)
    → Writes finding.answer status w w' → (finding.trace ≡ [])
    ⊎ ((status ≡ 0) ⊎ ((status ≡ 5) ⊎ (status ≡ 6)))
traced_by finding status w w' (inl none) writes = inl none
traced_by finding status w w' (inr zero_code) (inl (same, appends)) = inr (inl (same ∙ zero_code))
traced_by finding status w w' (inr zero_code) (inr (inl (same, rose, front))) = inr (inr (inl same))
traced_by finding status w w' (inr zero_code) (inr (inr (same, front))) = inr (inr (inr same))

pub traced_end : (named : Option Named) (words : List (List ℕ)) (b a : Seen) (k k' : Counts)
    (finding : Finding) (status : ℕ) (w w' : SinkSeen)
    → MayEnd named (work_of words) b a k k' finding → Writes finding.answer status w w'
    → (finding.trace ≡ []) ⊎ ((status ≡ 0) ⊎ ((status ≡ 5) ⊎ (status ≡ 6)))
traced_end named words b a k k' finding status w w' ends writes =
    traced_by finding status w w' (has_trace named words b a k k' finding ends) writes
