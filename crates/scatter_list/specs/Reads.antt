-- What is read of physical memory: so many bytes from an address on.
use Rattle.std.specs.Prelude.{ℕ, zero, suc, ◌+◌, ◌&&◌, Bool, true, List, [], ◌∷◌, ◌++◌, is_some}
use Rattle.std.specs.Prelude.{Option, Some, None}
use Rattle.bench_model.specs.declared.segment.Segment.{Segment}
use Rattle.bench_model.specs.Memory.{byte_at}

-- whether so many bytes from an address on are all there
unfoldable pub is_whole : List Segment → ℕ → ℕ → Bool
is_whole memory at zero = true
is_whole memory at (suc n) = is_whole memory at n && is_some (byte_at memory (at + n))

-- a byte that may be missing; one that is missing counts as 0
abbrev pub byte_or_zero : Option ℕ → ℕ
byte_or_zero None = 0
byte_or_zero (Some byte) = byte

-- so many bytes from an address on
unfoldable pub bytes_from : List Segment → ℕ → ℕ → List ℕ
bytes_from memory at zero = []
bytes_from memory at (suc n) =
    bytes_from memory at n ++ byte_or_zero (byte_at memory (at + n)) ∷ []
