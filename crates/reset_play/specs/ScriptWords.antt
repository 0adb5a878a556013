-- The words of a script: names, numbers and bytes.
use Rattle.std.specs.Prelude.{ℕ, ◌+◌, ◌-◌, ◌*◌, ◌%◌, Bool, ◌&&◌, ◌||◌, not, ◌==◌, nat_le}
use Rattle.std.specs.Prelude.{if◌then◌else◌, List, [], ◌∷◌, length, slice_index, Option, Some, None}
use Rattle.std.specs.Char.{is_ascii_digit}
use Rattle.std.specs.List.{list_all, slice_split}
use Rattle.reset_play.specs.declared.script.limits.TheConstants.{MAX_INPUT_NAME}
use Rattle.bench_model.specs.declared.outside_limits.TheConstants.{MAX_FILE_NAME}
use Rattle.reset_play.specs.declared.script.limits.TheConstants.{MAX_POKE_BYTES}

-- the parts of a text between marks of one kind: one more than there are marks
abbrev pub parts : ℕ → List ℕ → List (List ℕ)
parts mark text = slice_split (λ b. b == mark) text

-- the parts behind the mark that a rest begins with; none where there is no rest
abbrev pub parts_behind : ℕ → List ℕ → List (List ℕ)
parts_behind mark [] = []
parts_behind mark (m ∷ rest) = parts mark rest

-- the words of a line, with one space between any two
abbrev pub words : List ℕ → List (List ℕ)
words line = parts 32 line

-- the words behind a space
abbrev pub words_behind : List ℕ → List (List ℕ)
words_behind rest = parts_behind 32 rest

-- a number is within two others
abbrev pub is_within : ℕ → ℕ → ℕ → Bool
is_within low high n = nat_le low n && nat_le n high

-- a letter, a digit, `.`, `_` or `-`
abbrev pub is_name_byte : ℕ → Bool
is_name_byte b =
    is_within 65 90 b || is_within 97 122 b || is_within 48 57 b || (b == 46) || (b == 95)
    || (b == 45)

-- 1 to 40 of those bytes
abbrev pub is_file_name : List ℕ → Bool
is_file_name word = is_within 1 MAX_FILE_NAME (length word) && list_all is_name_byte word

-- 1 to 64 bytes of 0x21 to 0x7E
abbrev pub is_input_name : List ℕ → Bool
is_input_name word = is_within 1 MAX_INPUT_NAME (length word) && list_all (is_within 0x21 0x7E) word

-- decimal digits, of which the first is 0 only where it stands alone
abbrev pub is_decimal : List ℕ → Bool
is_decimal word =
    nat_le 1 (length word) && ((length word == 1) || not (slice_index word 0 == 48))
    && list_all is_ascii_digit word

-- the number of decimal digits, with the number before them
abbrev pub decimal_behind : ℕ → List ℕ → ℕ
decimal_behind n [] = n
decimal_behind n (c ∷ cs) = decimal_behind (10 * n + (c - 48)) cs

-- the decimal number of a word, where it is one within the limits
abbrev pub number_within : ℕ → ℕ → List ℕ → Option ℕ
number_within low high word =
    if is_decimal word && is_within low high (decimal_behind 0 word)
    then Some (decimal_behind 0 word) else None

-- a hexadecimal digit of either case
abbrev pub is_hex_digit : ℕ → Bool
is_hex_digit c = is_ascii_digit c || is_within 97 102 c || is_within 65 70 c

-- the value of a hexadecimal digit
abbrev pub hex_value : ℕ → ℕ
hex_value c = if nat_le 97 c then c - 87 else if nat_le 65 c then c - 55 else c - 48

-- the number of hexadecimal digits, with the number before them
abbrev pub hex_behind : ℕ → List ℕ → ℕ
hex_behind n [] = n
hex_behind n (c ∷ cs) = hex_behind (16 * n + hex_value c) cs

-- the hexadecimal number of a word of so many digits
abbrev pub hex_number : ℕ → ℕ → List ℕ → Option ℕ
hex_number least most word =
    if is_within least most (length word) && list_all is_hex_digit word
    then Some (hex_behind 0 word) else None

-- 1 to 16 hexadecimal digits
abbrev pub address : List ℕ → Option ℕ
address word = hex_number 1 16 word

-- the bytes of hexadecimal digits, two of them for each byte
abbrev pub hex_pairs : List ℕ → List ℕ
hex_pairs [] = []
hex_pairs (c ∷ []) = []
hex_pairs (c ∷ d ∷ rest) = (16 * hex_value c + hex_value d) ∷ hex_pairs rest

-- an even number of hexadecimal digits, of 1 to 4,096 bytes
abbrev pub is_hex_bytes : List ℕ → Bool
is_hex_bytes word =
    (length word % 2 == 0) && is_within 2 (2 * MAX_POKE_BYTES) (length word)
    && list_all is_hex_digit word

-- the bytes of such digits
abbrev pub hex_bytes : List ℕ → Option (List ℕ)
hex_bytes word = if is_hex_bytes word then Some (hex_pairs word) else None
