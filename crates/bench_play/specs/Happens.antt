-- What one event does to a bench that stands for one of two machines: the one that the last fault
-- left in doubt, or twice the same one.
use Rattle.std.specs.Prelude.{◌≡◌, ◌⊎◌, ℕ, length, true, Result, MatchResult}
use Rattle.bench_model.specs.Bench.{BenchValue, Contents}
use Rattle.cap_boot.specs.Stands.{Setting, StandsForEither}
use Rattle.cu_base.specs.declared.faults.NoMemory.{NoMemory}
use Rattle.reference_machine.specs.Events.{InputBytes, IsIn, Step, cut_machines}
use Rattle.reference_machine.specs.Laws.{IsReached}
use Rattle.reference_machine.specs.Machine.{Machine}
use Rattle.reference_machine.specs.TraceValues.{EntryValue, entry_value}
use Rattle.reference_machine.specs.declared.event.Event.{Event}
use Rattle.reference_machine.specs.declared.trace.Entry.{Entry}
use Rattle.bench_play.specs.declared.known.Known.{Known}

-- the regions and their lengths stay
pub record KeepsLengths (old new : BenchValue) : Type 0 where
  pub count : new.contents.regions ≡ old.contents.regions
  pub long : (k : ℕ) → length (new.contents.bytes k) ≡ length (old.contents.bytes k)

-- the machine is reached, and is what is known of it: its moment, and that it has failed
pub record IsKnown (x : Setting) (k : Known) (m : Machine) : Type 0 where
  pub reached : IsReached x.formats x.board m
  pub now : m.now ≡ k.moment
  pub failed : k.failed ≡ true → m.failed ≡ true

-- from one of two machines the event tells this and leaves this machine
abbrev pub FromEither : Setting → InputBytes → Machine → Machine → Event → EntryValue → Machine
    → Type 0
FromEither x bytes_of m n event entry new =
    Step x.formats bytes_of m event entry new ⊎ Step x.formats bytes_of n event entry new

-- the event told this: each image stands for one of two machines that one of the two before leaves
pub record HasHappened (x : Setting) (bytes_of : InputBytes) (m n : Machine) (event : Event)
    (entry : EntryValue) (k : Known) (s : Contents) : Type 0 where
  pub one : Machine
  pub other : Machine
  pub one_from : FromEither x bytes_of m n event entry one
  pub other_from : FromEither x bytes_of m n event entry other
  pub one_now : one.now ≡ k.moment
  pub other_now : other.now ≡ k.moment
  pub one_failed : k.failed ≡ true → one.failed ≡ true
  pub other_failed : k.failed ≡ true → other.failed ≡ true
  pub either : StandsForEither x s one other

-- a machine of the event of one of two machines that is cut off
abbrev pub CutFromEither : Setting → InputBytes → Machine → Machine → Event → Machine → Type 0
CutFromEither x bytes_of m n event new =
    IsIn new (cut_machines x.formats bytes_of m event)
    ⊎ IsIn new (cut_machines x.formats bytes_of n event)

-- the event was cut off: each image stands for one of two machines that it is cut off at
pub record WasCut (x : Setting) (bytes_of : InputBytes) (m n : Machine) (event : Event)
    (s : Contents) : Type 0 where
  pub one : Machine
  pub other : Machine
  pub one_from : CutFromEither x bytes_of m n event one
  pub other_from : CutFromEither x bytes_of m n event other
  pub either : StandsForEither x s one other

-- what an event does that told this, whatever two known machines the bench stood for
pub record Happens (x : Setting) (bytes_of : InputBytes) (event : Event) (entry : EntryValue)
    (k : Known) (s : Contents) (l : Known) (t : Contents) : Type 0 where
  pub from : (m n : Machine) → IsKnown x k m → IsKnown x k n → StandsForEither x s m n
      → HasHappened x bytes_of m n event entry l t

-- what an event does that is cut off
pub record IsCutOff (x : Setting) (bytes_of : InputBytes) (event : Event) (k : Known)
    (s t : Contents) : Type 0 where
  pub from : (m n : Machine) → IsKnown x k m → IsKnown x k n → StandsForEither x s m n
      → WasCut x bytes_of m n event t

-- what an event does, by its answer
abbrev pub Does : Setting → InputBytes → Event → Known → BenchValue → Result Entry NoMemory
    → Known → BenchValue → Type 0
Does x bytes_of event k old result l new =
    MatchResult result
    (λ entry. Happens x bytes_of event (entry_value entry) k old.contents l new.contents)
    (λ _. IsCutOff x bytes_of event k old.contents new.contents)
