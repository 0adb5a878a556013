-- Physical memory: segments that were laid one after another, of which a later one hides earlier
-- ones. The address 2^64 - 1 is never there.
use Rattle.std.specs.Prelude.{◌≡◌, ℕ, ◌+◌, ◌-◌, ◌^◌, ◌<◌, ◌≤◌, ◌&&◌, ◌||◌, nat_le, nat_lt, List, []}
use Rattle.std.specs.Prelude.{◌∷◌, ◌++◌, length, get_or, sum_by, fold, All, Option, Some, None}
use Rattle.std.specs.Prelude.{Result, Ok, Err, IsSome, if◌then◌else◌}
use Rattle.std.specs.Option.{option_or, unwrap_or}
use Rattle.bench_model.specs.declared.faults.LayFault.{LayFault}
use Rattle.bench_model.specs.declared.faults.LayFault.TheVariants.{Wraps, Full, Memory}
use Rattle.bench_model.specs.declared.outside_limits.TheConstants.{MAX_MEMORY_BYTES, MAX_SEGMENTS}
use Rattle.bench_model.specs.declared.segment.Segment.{Segment}

-- the byte of a segment at an address, where the segment has one there
abbrev pub byte_of : ℕ → Segment → Option ℕ
byte_of address s =
    if nat_le s.address address && nat_lt address (s.address + length s.bytes) then Some
    (get_or s.bytes (address - s.address) 0) else None

-- the byte at an address: that of the last segment that has one there
abbrev pub byte_at : List Segment → ℕ → Option ℕ
byte_at memory address = fold (λ found s. option_or (byte_of address s) found) None memory

-- these bytes stand in memory from an address on
pub record IsThere (memory : List Segment) (at : ℕ) (bytes : List ℕ) : Type 0 where
  pub each : (k : ℕ) → k < length bytes → byte_at memory (at + k) ≡ Some (get_or bytes k 0)
  pub end : at + length bytes ≤ 2 ^ 64 - 1

-- the bytes between two addresses are all there
abbrev pub IsThereTo : List Segment → ℕ → ℕ → Type 0
IsThereTo memory at end = (k : ℕ) → at ≤ k → k < end → IsSome (byte_at memory k)

-- bytes that were read from an address on, after those of one segment were copied over them
abbrev pub Overlays : Segment → ℕ → List ℕ → List ℕ → Type 0
Overlays s at old new =
    (k : ℕ) → k < length old
    → get_or new k 0 ≡ unwrap_or (byte_of (at + k) s) (get_or old k 0)

-- the bytes that stand in memory were read from an address on; where none stands, anything was
abbrev pub IsShown : List Segment → ℕ → List ℕ → Type 0
IsShown memory at bytes =
    (k : ℕ) → k < length bytes
    → get_or bytes k 0 ≡ unwrap_or (byte_at memory (at + k)) (get_or bytes k 0)

-- of so many bytes from an address on one is not there
pub record IsLacking (memory : List Segment) (at n : ℕ) : Type 0 where
  pub place : ℕ
  pub within : place < n
  pub gone : byte_at memory (at + place) ≡ None

-- all bytes of the segments
abbrev pub bytes_laid : List Segment → ℕ
bytes_laid memory = sum_by (λ s. length s.bytes) memory

-- a segment ends below the last address
abbrev pub EndsBelow : Segment → Type 0
EndsBelow s = s.address + length s.bytes ≤ 2 ^ 64 - 1

-- segments within their limits, each below the last address
pub record IsMemory (memory : List Segment) : Type 0 where
  pub each : All EndsBelow memory
  pub most : length memory ≤ MAX_SEGMENTS
  pub bytes : bytes_laid memory ≤ MAX_MEMORY_BYTES

-- the memory with one more segment
abbrev pub with_segment : List Segment → ℕ → List ℕ → List Segment
with_segment memory address bytes = memory ++ record { address = address; bytes = bytes } ∷ []

-- why a segment of so many bytes is not laid: it would reach the last address, or the segments or
-- their bytes are at their limit
abbrev pub lay_refusal : List Segment → ℕ → ℕ → Option LayFault
lay_refusal memory address size =
    if nat_lt (2 ^ 64 - 1) (address + size) then Some Wraps
    else if nat_le MAX_SEGMENTS (length memory)
    || nat_lt MAX_MEMORY_BYTES (bytes_laid memory + size) then Some Full
    else None

-- the refusal that an answer tells; want of memory is none
abbrev pub told_refusal : Result (Unit {0}) LayFault → Option LayFault
told_refusal (Ok x) = None
told_refusal (Err Wraps) = Some Wraps
told_refusal (Err Full) = Some Full
told_refusal (Err Memory) = None
