-- What a play does to a bench that stood for a machine.
use Rattle.std.specs.Prelude.{◌≡◌, ◌⊎◌, ℕ, List, length, take, slice_get, Some}
use Rattle.std.specs.Prelude.{Result, MatchResult}
use Rattle.cu_base.specs.declared.faults.NoMemory.{NoMemory}
use Rattle.bench_model.specs.Bench.{AreImages, Contents}
use Rattle.bench_model.specs.Boards.{IsBoard}
use Rattle.cap_boot.specs.Stands.{Setting, StandsForEither, StandsIn}
use Rattle.reference_machine.specs.Events.{InputBytes, IsIn, Run, cut_machines}
use Rattle.reference_machine.specs.Laws.{IsReached}
use Rattle.reference_machine.specs.Machine.{Machine, first_moment}
use Rattle.reference_machine.specs.TraceValues.{EntryValue}
use Rattle.reference_machine.specs.declared.event.Event.{Event}

-- a play may start from this machine: it is reached, and its moment is the first. The board keeps
-- its limits, as each board does.
pub record IsStart (x : Setting) (m : Machine) : Type 0 where
  pub board : IsBoard x.board
  pub reached : IsReached x.formats x.board m
  pub now : m.now ≡ first_moment

-- the events told these entries: each image stands for a machine of a run of them, and for one of
-- two such machines
pub record IsPlayed (x : Setting) (bytes_of : InputBytes) (m : Machine) (events : List Event)
    (told : List EntryValue) (s : Contents) : Type 0 where
  pub one : Machine
  pub other : Machine
  pub one_run : Run x.formats bytes_of m events told one
  pub other_run : Run x.formats bytes_of m events told other
  pub either : StandsForEither x s one other

-- a run of these events leads to a machine from which the next event, cut off, leaves this one
pub record CutAfter (x : Setting) (bytes_of : InputBytes) (m : Machine) (events : List Event)
    (told : List EntryValue) (event : Event) (new : Machine) : Type 0 where
  pub before : Machine
  pub run : Run x.formats bytes_of m events told before
  pub cut : IsIn new (cut_machines x.formats bytes_of before event)

-- the events told these entries, and the next one was cut off
pub record IsCutIn (x : Setting) (bytes_of : InputBytes) (m : Machine) (events : List Event)
    (told : List EntryValue) (event : Event) (s : Contents) : Type 0 where
  pub one : Machine
  pub other : Machine
  pub one_cut : CutAfter x bytes_of m events told event one
  pub other_cut : CutAfter x bytes_of m events told event other
  pub either : StandsForEither x s one other

-- the play was cut off: between two events, or in the next one
pub record IsCutShort (x : Setting) (bytes_of : InputBytes) (m : Machine) (events : List Event)
    (told : List EntryValue) (s : Contents) : Type 0 where
  pub next : Event
  pub is_next : slice_get events (length told) ≡ Some next
  pub at : IsPlayed x bytes_of m (take (length told) events) told s
      ⊎ IsCutIn x bytes_of m (take (length told) events) told next s

-- an image stands for a machine of a run of the events
pub record StandsByRun (x : Setting) (bytes_of : InputBytes) (m : Machine) (events : List Event)
    (told : List EntryValue) (s : Contents) (image : ℕ → List ℕ) : Type 0 where
  pub machine : Machine
  pub run : Run x.formats bytes_of m events told machine
  pub stands : StandsIn x image s machine

-- an image stands for a machine of a run of the events before, or for one that the next event
-- leaves when it is cut off
pub record StandsByCut (x : Setting) (bytes_of : InputBytes) (m : Machine) (events : List Event)
    (told : List EntryValue) (s : Contents) (image : ℕ → List ℕ) : Type 0 where
  pub next : Event
  pub is_next : slice_get events (length told) ≡ Some next
  pub machine : Machine
  pub from : Run x.formats bytes_of m (take (length told) events) told machine
      ⊎ CutAfter x bytes_of m (take (length told) events) told next machine
  pub stands : StandsIn x image s machine

-- what a play does, for each machine that it may start from and that the bench stands for
abbrev pub Plays : Setting → InputBytes → List Event → Contents → Result (Unit {0}) NoMemory
    → List EntryValue → Contents → Type 0
Plays x bytes_of events s result told t =
    (m : Machine) → IsStart x m → StandsForEither x s m m
    → MatchResult result (λ _. IsPlayed x bytes_of m events told t)
    (λ _. IsCutShort x bytes_of m events told t)

-- the same of each image by itself
abbrev pub PlaysInImages : Setting → InputBytes → List Event → Contents
    → Result (Unit {0}) NoMemory → List EntryValue → Contents → Type 0
PlaysInImages x bytes_of events s result told t =
    (m : Machine) → IsStart x m → StandsForEither x s m m
    → (image : ℕ → List ℕ) → AreImages t image
    → MatchResult result (λ _. StandsByRun x bytes_of m events told t image)
    (λ _. StandsByCut x bytes_of m events told t image)
