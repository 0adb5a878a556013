-- The numbers and names of result variables (UEFI 2.10, 8.5.6): Capsule0000 and so on, up to the
-- number that CapsuleMax names, and then from 0 again.
use Rattle.std.specs.Prelude.{ℕ, true, ◌+◌, ◌/◌, ◌%◌, nat_le, List, [], ◌∷◌, ◌++◌, codes}
use Rattle.std.specs.Prelude.{Option, Some, None, if◌then◌else◌}
use Rattle.std.specs.Fmt.{digit_glyph}

-- the number behind the last: 0 where there is none, or where it is the greatest
abbrev pub number_behind : Option ℕ → ℕ → ℕ
number_behind None most = 0
number_behind (Some last) most = if nat_le most last then 0 else last + 1

-- a byte in two upper-case hexadecimal digits
abbrev pub hex_pair : ℕ → List ℕ
hex_pair n = digit_glyph true (n / 16) ∷ digit_glyph true (n % 16) ∷ []

-- the name of a result variable: Capsule and four upper-case hexadecimal digits
abbrev pub result_name : ℕ → List ℕ
result_name n = codes "Capsule" ++ hex_pair (n / 256) ++ hex_pair (n % 256)
