-- What reading takes from a source and writing adds to a sink, where they tell their bytes.
use Rattle.std.specs.Prelude.{◌≡◌, ℕ, ◌+◌, ◌-◌, ◌≤◌, ◌<◌, ◌^◌, min, List, ◌++◌, length, take}
use Rattle.std.specs.Prelude.{Option, Result, MatchResult, IfOk, IsErrOf}
use Rattle.std.specs.Io.KnownBytes.{Appends, Consumes, IsAtEnd, ReadConsumes, WriteAppends}
use Rattle.cu_base.specs.Causes.{HasCauseOf, RoseBy}
use Rattle.cu_io.specs.declared.read.ReadFault.{ReadFault}
use Rattle.cu_io.specs.declared.read.ReadFault.TheVariants.{TooLong}

-- what is seen of a source: the bytes that are left, where it tells them, how many it has given,
-- and how often it has failed
pub record SourceSeen : Type 0 where
  pub left : Option (List ℕ)
  pub taken : ℕ
  pub faults : ℕ

-- what is seen of a sink: what was written, where it tells that, and how often it has failed
pub record SinkSeen : Type 0 where
  pub written : Option (List ℕ)
  pub faults : ℕ

-- the count of bytes given grows by what a read gave, and stays where it failed
abbrev pub CountsTaken : {E : Type 0} → ℕ → ℕ → Result ℕ E → Type 0
CountsTaken before now result =
    MatchResult result (λ n. now ≡ min (before + n) (2 ^ 64 - 1)) (λ _. now ≡ before)

-- a read gave the front of what was left, and counted it
pub record Gives {E : Type 0} (old new : SourceSeen) (result : Result ℕ E) (out : List ℕ) : Type 0
  where
    pub bytes : ReadConsumes old.left new.left result out
    pub counts : CountsTaken old.taken new.taken result

-- the count of faults never falls, and it rose where the call answered this fault
abbrev pub ReadFails : {T E : Type 0} → E → SourceSeen → SourceSeen → Result T E → Type 0
ReadFails fault old new result = HasCauseOf fault old.faults new.faults result

-- the same of a sink
abbrev pub WriteFails : {T E : Type 0} → E → SinkSeen → SinkSeen → Result T E → Type 0
WriteFails fault old new result = HasCauseOf fault old.faults new.faults result

-- these bytes were taken and counted
pub record Takes (bytes : List ℕ) (old new : SourceSeen) : Type 0 where
  pub consumed : Consumes old.left new.left bytes
  pub counted : RoseBy (length bytes) old.taken new.taken

-- these bytes were all that was left, and they are at most the limit
pub record TakesAll (limit : ℕ) (bytes : List ℕ) (old new : SourceSeen) : Type 0 where
  pub taken : Takes bytes old new
  pub end : IsAtEnd new.left
  pub within : length bytes ≤ limit

-- this many bytes were taken
abbrev pub TakesMany : ℕ → SourceSeen → SourceSeen → Type 0
TakesMany n old new = (bytes : List ℕ) × (length bytes ≡ n) × Takes bytes old new

-- this many bytes were taken and appended to those that came before
pub record TakesInto (before after : List ℕ) (old new : SourceSeen) (n : ℕ) : Type 0 where
  pub bytes : List ℕ
  pub many : length bytes ≡ n
  pub appended : after ≡ before ++ bytes
  pub taken : Takes bytes old new

-- this many bytes were taken, which stand at the front of these
pub record TakesFront (n : ℕ) (out : List ℕ) (old new : SourceSeen) : Type 0 where
  pub some : 0 < n
  pub consumed : Consumes old.left new.left (take n out)
  pub counted : RoseBy n old.taken new.taken

-- some bytes were taken, at most this many
abbrev pub TakesSome : ℕ → SourceSeen → SourceSeen → Type 0
TakesSome most old new = (bytes : List ℕ) × (length bytes ≤ most) × Consumes old.left new.left bytes

-- where more than the limit is left, one byte more than it was taken
abbrev pub EndsLong : {T : Type 0} → ℕ → SourceSeen → SourceSeen → Result T ReadFault → Type 0
EndsLong limit old new result = IsErrOf result TooLong → TakesMany (limit + 1) old new

-- a write takes at most the piece, and some of one that is not empty
abbrev pub TakesPiece : {E : Type 0} → Result ℕ E → List ℕ → Type 0
TakesPiece result bytes = IfOk result (λ n. (n ≤ length bytes) × (0 < length bytes → 0 < n))

-- a write appends the front of the piece that it took, and nothing where it fails
abbrev pub Writes : {E : Type 0} → SinkSeen → SinkSeen → Result ℕ E → List ℕ → Type 0
Writes old new result bytes = WriteAppends old.written new.written result bytes

-- all of the bytes were written
abbrev pub AppendsAll : SinkSeen → SinkSeen → List ℕ → Type 0
AppendsAll old new bytes = Appends old.written new.written bytes

-- a prefix of the bytes was written
abbrev pub AppendsFront : SinkSeen → SinkSeen → List ℕ → Type 0
AppendsFront old new bytes =
    (n : ℕ) × (n ≤ length bytes) × Appends old.written new.written (take n bytes)

-- how far a source was read, and how many bytes came since its stream was made
pub record Progress : Type 0 where
  pub left : Option (List ℕ)
  pub taken : ℕ
  pub faults : ℕ
  pub place : ℕ

-- the stream of a source of which this is seen, after this many bytes
abbrev pub come_to : SourceSeen → ℕ → Progress
come_to source place =
    record { left = source.left; taken = source.taken; faults = source.faults; place = place }

-- what is seen of the source of a stream
abbrev pub source_of : Progress → SourceSeen
source_of stream = record { left = stream.left; taken = stream.taken; faults = stream.faults }

-- these bytes came, and no fault was taken back
pub record Goes (bytes : List ℕ) (old new : Progress) : Type 0 where
  pub consumed : Consumes old.left new.left bytes
  pub counted : RoseBy (length bytes) old.taken new.taken
  pub place : new.place ≡ old.place + length bytes
  pub later : old.faults ≤ new.faults

-- this many bytes came
abbrev pub Passes : ℕ → Progress → Progress → Type 0
Passes n old new = (bytes : List ℕ) × (length bytes ≡ n) × Goes bytes old new

-- some bytes came, at most this many
abbrev pub GoesOn : ℕ → Progress → Progress → Type 0
GoesOn most old new = (bytes : List ℕ) × (length bytes ≤ most) × Goes bytes old new

-- fewer bytes than this came, and none is left
abbrev pub Ends : ℕ → Progress → Progress → Type 0
Ends n old new = (bytes : List ℕ) × (length bytes < n) × Goes bytes old new × IsAtEnd new.left

-- the bytes that came stand at the front of these, which are more, and none is left
abbrev pub EndsIn : List ℕ → Progress → Progress → Type 0
EndsIn out old new = (n : ℕ) × (n < length out) × Goes (take n out) old new × IsAtEnd new.left
