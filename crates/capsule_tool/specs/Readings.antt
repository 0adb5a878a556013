-- What may come of reading an input, by what the inputs tell and by what was seen of them before
-- and after.
use Rattle.std.specs.Prelude.{◌≡◌, ℕ, ◌+◌, ◌≤◌, ◌<◌, ◌⊎◌, nat_lt, List, [], ◌∷◌, ◌++◌, length}
use Rattle.std.specs.Prelude.{Option, None, Some, IsSomeAnd, Result, Ok, Err, ⊤, if◌then◌else◌}
use Rattle.cu_base.specs.Causes.{Rose, RoseBy}
use Rattle.cu_base.specs.declared.limits.TheConstants.{MAX_CAPSULE_BYTES}
use Rattle.cu_io.specs.Named.{Named, IsMissing, bytes_named}
use Rattle.cu_io.specs.Seen.{Seen, MayAsk}
use Rattle.cu_io.specs.declared.read.ReadFault.{ReadFault}
use Rattle.cu_io.specs.declared.read.ReadFault.TheVariants.{Read, TooLong, Memory}
use Rattle.capsule_tool.specs.Verdicts.{verdict_of}
use Rattle.capsule_tool.specs.declared.verdict.Verdict.{Verdict}

-- what may come of reading an input: all of its bytes; it is not there or a call failed; it is
-- longer than its limit
pub data Reading : Type 0 where
  Whole : (bytes : List ℕ) → Reading
  Unread : Reading
  Long : Reading

-- the input may hold these bytes: it does, where names are told
abbrev pub MayHold : Option Named → List ℕ → List ℕ → Type 0
MayHold None name bytes = ⊤
MayHold (Some named) name bytes = bytes_named named name ≡ Some bytes

-- the input may be longer than its limit: it is, where names are told
abbrev pub MayPassLimit : Option Named → ℕ → List ℕ → Type 0
MayPassLimit None limit name = ⊤
MayPassLimit (Some named) limit name = IsSomeAnd (bytes_named named name)
    (λ bytes. limit < length bytes)

-- all bytes came and were counted; or a fault was counted, or the name is missing; or one byte more
-- than the limit came
abbrev pub IsReading : Option Named → ℕ → List ℕ → Seen → Seen → Reading → Type 0
IsReading named limit name before after (Whole bytes) =
    MayHold named name bytes × (length bytes ≤ limit)
    × RoseBy (length bytes) before.taken after.taken
IsReading named limit name before after Unread =
    Rose before.faults after.faults ⊎ IsMissing named name
IsReading named limit name before after Long =
    MayPassLimit named limit name × RoseBy (limit + 1) before.taken after.taken

-- the name was asked for once, no fault was taken back, and this came of it
pub record WasRead (named : Option Named) (limit : ℕ) (name : List ℕ) (before after : Seen)
    (reading : Reading) : Type 0 where
  pub asked : after.asked ≡ before.asked ++ name ∷ []
  pub later : before.faults ≤ after.faults
  pub gives : IsReading named limit name before after reading

-- the input of this name was read so; with want of memory the name may be asked for
abbrev pub ReadsAs : ℕ → List ℕ → Seen → Seen → Result (List ℕ) ReadFault → Type 0
ReadsAs limit name before after (Ok bytes) =
    WasRead before.named limit name before after (Whole bytes)
ReadsAs limit name before after (Err Read) = WasRead before.named limit name before after Unread
ReadsAs limit name before after (Err TooLong) = WasRead before.named limit name before after Long
ReadsAs limit name before after (Err Memory) = MayAsk name before after

-- the input of this name was read so, up to the limit of a capsule, and this is the verdict on its
-- bytes
abbrev pub JudgesAs : List ℕ → Seen → Seen → Result Verdict ReadFault → Type 0
JudgesAs name before after (Ok verdict) =
    (bytes : List ℕ) × ReadsAs MAX_CAPSULE_BYTES name before after (Ok bytes)
    × (verdict ≡ verdict_of bytes)
JudgesAs name before after (Err fault) = ReadsAs MAX_CAPSULE_BYTES name before after (Err fault)

-- what reading gives where inputs are told and no call fails
abbrev pub reading_of : ℕ → Option (List ℕ) → Reading
reading_of limit None = Unread
reading_of limit (Some bytes) = if nat_lt limit (length bytes) then Long else Whole bytes
