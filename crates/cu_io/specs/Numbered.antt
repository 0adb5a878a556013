-- Objects in memory whose calls are numbered from 1, and fail at given numbers.
use Rattle.std.specs.Prelude.{◌≡◌, ℕ, ◌+◌, ◌-◌, ◌^◌, ◌<◌, ◌++◌, ◌∷◌, ◌⊎◌, min, List, [], take, drop}
use Rattle.std.specs.Prelude.{length, Contains}
use Rattle.std.specs.Prelude.{◌↔◌, Some, Result, IsErr, IsErrOf, IfOk, OnErr}
use Rattle.cu_io.specs.Seen.{Seen}
use Rattle.cu_io.specs.Streams.{SourceSeen, SinkSeen}
use Rattle.cu_io.specs.declared.inputs.OpenFault.{OpenFault}
use Rattle.cu_io.specs.declared.inputs.OpenFault.TheVariants.{Failed, Memory}
use Rattle.cu_io.specs.declared.sink.SinkFault.{SinkFault}
use Rattle.cu_io.specs.declared.sink.SinkFault.TheVariants as sinks

-- one more, or the last value of a count
abbrev pub one_more : ℕ → ℕ
one_more n = min (n + 1) (2 ^ 64 - 1)

-- bytes in memory that are given from the front
pub record Unread : Type 0 where
  pub left : List ℕ
  pub taken : ℕ

-- n bytes were given from the front of what was left, and none only at the end or with no room
abbrev pub Consumed : List ℕ → List ℕ → ℕ → List ℕ → Type 0
Consumed left left' n out = (left ≡ take n out ++ left') × (n ≡ 0 → 0 < length out → left' ≡ [])

-- named bytes in memory, and what was asked for and taken of them
pub record Askable : Type 0 where
  pub named : List (List ℕ × List ℕ)
  pub asked : List (List ℕ)
  pub taken : ℕ

-- a source in memory
pub record Readable : Type 0 where
  pub left : List ℕ
  pub fails : List ℕ
  pub calls : ℕ
  pub taken : ℕ
  pub faults : ℕ

-- a sink in memory
pub record Writable : Type 0 where
  pub written : List ℕ
  pub fails : List ℕ
  pub calls : ℕ
  pub faults : ℕ

-- inputs in memory
pub record Findable : Type 0 where
  pub named : List (List ℕ × List ℕ)
  pub asked : List (List ℕ)
  pub open_fails : List ℕ
  pub read_fails : List ℕ
  pub calls : ℕ
  pub taken : ℕ
  pub faults : ℕ

-- what is seen of a source in memory
abbrev pub source_seen : Readable → SourceSeen
source_seen s = record { left = Some s.left; taken = s.taken; faults = s.faults }

-- what is seen of a source in memory that never fails
abbrev pub calm_source : Unread → SourceSeen
calm_source s = record { left = Some s.left; taken = s.taken; faults = 0 }

-- what is seen of a sink in memory
abbrev pub sink_seen : Writable → SinkSeen
sink_seen s = record { written = Some s.written; faults = s.faults }

-- what is seen of a sink in memory that never fails
abbrev pub calm_sink : List ℕ → SinkSeen
calm_sink written = record { written = Some written; faults = 0 }

-- a source in memory of which nothing was read, with its planned faults
abbrev pub unread : List ℕ → List ℕ → Readable
unread bytes fails = record { left = bytes; fails = fails; calls = 0; taken = 0; faults = 0 }

-- a sink in memory to which nothing was written, with its planned faults
abbrev pub unwritten : List ℕ → Writable
unwritten fails = record { written = []; fails = fails; calls = 0; faults = 0 }

-- a read gives as many bytes as there is room for and as are left
abbrev pub GivesMost : List ℕ → List ℕ → List ℕ → ℕ → Type 0
GivesMost left old new n =
    (n ≡ min (length old) (length left)) × (new ≡ take n left ++ drop n old)

-- the reads are numbered, and one fails exactly where its number is among the planned ones
pub record StrikesReading {T E : Type 0} (old new : Readable) (result : Result T E) : Type 0 where
  pub struck : IsErr result ↔ Contains old.fails (one_more old.calls)
  pub calls : new.calls ≡ one_more old.calls
  pub fails : new.fails ≡ old.fails
  pub still : IfOk result (λ _. new.faults ≡ old.faults)
  pub failed : OnErr result (new.faults ≡ one_more old.faults)

-- the writes are numbered, and one fails exactly where its number is among the planned ones
pub record StrikesWriting {T : Type 0} (old new : Writable) (result : Result T SinkFault) : Type 0
  where
    pub struck : IsErrOf result sinks.Failed ↔ Contains old.fails (one_more old.calls)
    pub calls : new.calls ≡ one_more old.calls
    pub fails : new.fails ≡ old.fails
    pub still : IfOk result (λ _. new.faults ≡ old.faults)
    pub failed : IsErrOf result sinks.Failed → new.faults ≡ one_more old.faults
    pub memory : IsErrOf result sinks.Memory → new.faults ≡ old.faults

-- what is seen of inputs in memory
abbrev pub seen_of : Findable → Seen
seen_of s = record { named = Some s.named; asked = s.asked; faults = s.faults; taken = s.taken }

-- what is seen of inputs in memory that never fail
abbrev pub calm_of : Askable → Seen
calm_of s = record { named = Some s.named; asked = s.asked; faults = 0; taken = s.taken }

-- the calls of open are numbered, and one fails exactly where its number is among the planned ones
-- and there was memory to keep the name
pub record StrikesOpening {T : Type 0} (old new : Findable) (result : Result T OpenFault) : Type 0
  where
    pub fails : IsErrOf result Failed → Contains old.open_fails (one_more old.calls)
    pub struck : Contains old.open_fails (one_more old.calls) → IsErrOf result Failed
        ⊎ IsErrOf result Memory
    pub calls : new.calls ≡ one_more old.calls
    pub still : IsErrOf result Failed ⊎ (new.faults ≡ old.faults)
    pub failed : IsErrOf result Failed → new.faults ≡ one_more old.faults

-- the planned faults of opening and of reading stay
abbrev pub KeepsPlan : Findable → Findable → Type 0
KeepsPlan old new = (new.open_fails ≡ old.open_fails) × (new.read_fails ≡ old.read_fails)

-- inputs in memory of which none is there, with the planned faults of opening and of reading
abbrev pub unasked : List ℕ → List ℕ → Findable
unasked open_fails read_fails = record {
  named = [];
  asked = [];
  open_fails = open_fails;
  read_fails = read_fails;
  calls = 0;
  taken = 0;
  faults = 0;
}

-- the same inputs with one more behind them
abbrev pub with_input : List ℕ → List ℕ → Findable → Findable
with_input name bytes inputs = record inputs { named = inputs.named ++ (name, bytes) ∷ [] }

-- the same, of inputs that never fail
abbrev pub with_named : List ℕ → List ℕ → Askable → Askable
with_named name bytes inputs = record inputs { named = inputs.named ++ (name, bytes) ∷ [] }

-- the same inputs, of which one more name was asked for
abbrev pub with_asked : List ℕ → Askable → Askable
with_asked name inputs = record inputs { asked = inputs.asked ++ name ∷ [] }

-- the same inputs, whose sources gave more bytes
abbrev pub with_taken : ℕ → Askable → Askable
with_taken bytes inputs = record inputs { taken = min (inputs.taken + bytes) (2 ^ 64 - 1) }
