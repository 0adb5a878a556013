-- The size of bytes as a number of 64 bits.
use Rattle.std.specs.Prelude.{◌≡◌, ℕ, ◌-◌, ◌^◌, List, length, min}

-- the length, or the greatest number where the length is greater
abbrev pub IsSizeOf : ℕ → List ℕ → Type 0
IsSizeOf size bytes = size ≡ min (length bytes) (2 ^ 64 - 1)
