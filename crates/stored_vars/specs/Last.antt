-- CapsuleMax and CapsuleLast (UEFI 2.10, 8.5.6): the name of a result in 11 CHAR16, little-endian,
-- without a terminator.
use Rattle.std.specs.Prelude.{ℕ, ◌+◌, ◌-◌, ◌*◌, ◌^◌, Bool, ◌&&◌, List, [], ◌∷◌, flat_map, get_or}
use Rattle.std.specs.Prelude.{nat_le, nat_lt, Option, None, Some, if◌then◌else◌}
use Rattle.std.specs.Str.{bytes_eq}
use Rattle.report_tables.specs.Names.{result_name}

-- the spelling of the name of a result
abbrev pub last_bytes : ℕ → List ℕ
last_bytes number = flat_map (λ c. c ∷ 0 ∷ []) (result_name number)

-- what an upper-case hexadecimal digit stands for; of any other byte some number
abbrev pub digit_in : ℕ → ℕ
digit_in c = if nat_le 65 c then c - 55 else c - 48

-- the number by its digits
abbrev pub number_named : List ℕ → ℕ
number_named bytes =
    4096 * digit_in (get_or bytes 14 0) + 256 * digit_in (get_or bytes 16 0)
    + 16 * digit_in (get_or bytes 18 0) + digit_in (get_or bytes 20 0)

-- these bytes are the spelling of the name of a result
abbrev pub is_last : List ℕ → Bool
is_last bytes =
    nat_lt (number_named bytes) (2 ^ 16) && bytes_eq (last_bytes (number_named bytes)) bytes

-- the number of the result whose name these bytes spell; any others are none
abbrev pub last_in : List ℕ → Option ℕ
last_in bytes = if is_last bytes then Some (number_named bytes) else None
