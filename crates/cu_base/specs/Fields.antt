-- Numbers and fields of a format. All are little-endian (UEFI 2.10, 1.8.1).
use Rattle.std.specs.Prelude.{ℕ, zero, suc, ◌+◌, ◌*◌, ◌/◌, ◌%◌, List, [], ◌∷◌, take, drop}

-- the number of a list of bytes, the lowest first
abbrev pub number : List ℕ → ℕ
number [] = 0
number (b ∷ bs) = b + 256 * number bs

-- the bytes of a field of this size at a place, or those that are there
abbrev pub field : List ℕ → ℕ → ℕ → List ℕ
field bytes at size = take size (drop at bytes)

-- the number in a field
abbrev pub number_at : List ℕ → ℕ → ℕ → ℕ
number_at bytes at size = number (field bytes at size)

-- the bytes of a number, the lowest first
abbrev pub bytes_of : ℕ → ℕ → List ℕ
bytes_of zero n = []
bytes_of (suc size) n = n % 256 ∷ bytes_of size (n / 256)
