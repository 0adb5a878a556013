-- The work of a run: the inputs that it reads, one after the other, and what it finds then. What
-- the program finds, what it may find whatever happens outside, and the names that it asks for are
-- all read off it.
use Rattle.std.specs.Prelude.{◌≡◌, ℕ, ◌≤◌, ◌⊎◌, List, [], ◌∷◌, ◌++◌, length, sum_by, Option}
use Rattle.bench_model.specs.Boards.{BoardValue}
use Rattle.bench_model.specs.declared.counts.Counts.{Counts}
use Rattle.cu_base.specs.Causes.{RoseBy}
use Rattle.cu_io.specs.Named.{Named, bytes_named}
use Rattle.capsule_tool.specs.Answers.{unread, long}
use Rattle.capsule_tool.specs.Findings.{Finding, bare}
use Rattle.cu_io.specs.Seen.{Seen}
use Rattle.capsule_tool.specs.Readings.{Reading, MayHold, WasRead, reading_of}
use Rattle.capsule_tool.specs.Readings.Reading.{Whole, Unread, Long}
use Rattle.capsule_tool.specs.Played.{played_as, played, MayTell, MayHaveTold}
use Rattle.reference_machine.specs.TraceValues.{EntryValue}
use Rattle.reference_machine.specs.declared.event.Event.{Event}

-- this is found; or events are played on a board, over inputs that were loaded; or an input is read
-- up to a limit, and its bytes say what is done next
pub data Work : Type 0 where
  Finds : (finding : Finding) → Work
  Plays : (board : BoardValue) → (events : List Event) → (loaded : Named) → Work
  Reads : (limit : ℕ) → (name : List ℕ) → (next : List ℕ → Work) → Work

-- what comes of a reading: the first one that does not give all bytes decides
abbrev pub by_reading : List ℕ → (List ℕ → Finding) → Reading → Finding
by_reading name next (Whole bytes) = next bytes
by_reading name next Unread = bare (unread name)
by_reading name next Long = bare (long name)

-- what is found where inputs are told and no call fails
abbrev pub told_by : Named → Work → Finding
told_by named (Finds finding) = finding
told_by named (Plays board events loaded) = played board events loaded
told_by named (Reads limit name next) = by_reading name (λ bytes. told_by named (next bytes))
    (reading_of limit (bytes_named named name))

-- a work comes to another by reading these bytes whole, input by input
abbrev pub Comes : Option Named → List (List ℕ) → Work → Work → Type 0
Comes named [] work work' = work' ≡ work
Comes named (bytes ∷ rest) (Finds finding) work' = ⊥
Comes named (bytes ∷ rest) (Plays board events loaded) work' = ⊥
Comes named (bytes ∷ rest) (Reads limit name next) work' =
    MayHold named name bytes × (length bytes ≤ limit) × Comes named rest (next bytes) work'

-- the names of the inputs that give these bytes
abbrev pub names_by : List (List ℕ) → Work → List (List ℕ)
names_by [] work = []
names_by (bytes ∷ rest) (Finds finding) = []
names_by (bytes ∷ rest) (Plays board events loaded) = []
names_by (bytes ∷ rest) (Reads limit name next) = name ∷ names_by rest (next bytes)

-- the name that a work asks for first, if it asks for one
abbrev pub next_names : Work → List (List ℕ)
next_names (Finds finding) = []
next_names (Plays board events loaded) = []
next_names (Reads limit name next) = name ∷ []

-- these names were asked for, all these bytes were counted, and no fault was taken back
pub record Took (names readings : List (List ℕ)) (before after : Seen) : Type 0 where
  pub asked : after.asked ≡ before.asked ++ names
  pub taken : RoseBy (sum_by length readings) before.taken after.taken
  pub later : before.faults ≤ after.faults

-- a work comes to another between these moments
abbrev pub ComesTo : Option Named → Work → Seen → Work → Seen → Type 0
ComesTo named work before work' after =
    (readings : List (List ℕ)) × Comes named readings work work'
    × Took (names_by readings work) readings before after

-- a reading that does not give all bytes decides
abbrev pub Decides : List ℕ → Reading → Finding → Type 0
Decides name (Whole bytes) finding = ⊥
Decides name Unread finding = finding ≡ bare (unread name)
Decides name Long finding = finding ≡ bare (long name)

-- a work ends at its next input, whose reading decides
abbrev pub EndsAt : Option Named → Work → Seen → Seen → Finding → Type 0
EndsAt named (Finds it) before after finding = ⊥
EndsAt named (Plays board events loaded) before after finding = ⊥
EndsAt named (Reads limit name next) before after finding =
    (reading : Reading) × WasRead named limit name before after reading
    × Decides name reading finding

-- what a work may find before a play, whatever happens outside: what it comes to, or what the reading
-- of an input decides
abbrev pub MayFind : Option Named → Work → Seen → Seen → Finding → Type 0
MayFind named work before after finding =
    ComesTo named work before (Finds finding) after
    ⊎ ((work' : Work) × (middle : Seen) × ComesTo named work before work' middle
    × EndsAt named work' middle after finding)

-- a work may come to a play that finds this, where the bench had and has these counts
abbrev pub MayPlay : Option Named → Work → Seen → Seen → Counts → Counts → Finding → Type 0
MayPlay named work before after counts counts' finding =
    (board : BoardValue) × (events : List Event) × (loaded : Named) × (trace : List EntryValue)
    × ComesTo named work before (Plays board events loaded) after
    × MayTell board events loaded counts counts' trace × (finding ≡ played_as board events trace)

-- what a work may find, whatever happens outside
abbrev pub MayEnd : Option Named → Work → Seen → Seen → Counts → Counts → Finding → Type 0
MayEnd named work before after counts counts' finding =
    MayFind named work before after finding
    ⊎ MayPlay named work before after counts counts' finding

-- where a work may stop for want of memory: where it comes to, before or after it asks for its next
-- input
abbrev pub MayStop : Option Named → Work → Seen → Seen → Type 0
MayStop named work before after =
    (work' : Work) × (middle : Seen) × ComesTo named work before work' middle
    × ((after.asked ≡ middle.asked) ⊎ (after.asked ≡ middle.asked ++ next_names work'))

-- what was told of a play where memory ran out: nothing, or what a play may have told by then to which
-- the work comes
abbrev pub StopsTelling : Option Named → Work → Seen → Seen → Counts → Counts → List EntryValue
    → Type 0
StopsTelling named work before after counts counts' trace =
    (trace ≡ [])
    ⊎ ((board : BoardValue) × (events : List Event) × (loaded : Named)
    × ComesTo named work before (Plays board events loaded) after
    × MayHaveTold board events loaded counts counts' trace)
