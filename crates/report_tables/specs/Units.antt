-- Texts of CHAR16 (UEFI 2.10, 2.3.1): a unit of 2 bytes for each character, ended by a unit of 0.
use Rattle.std.specs.Prelude.{◌≡◌, ℕ, ◌+◌, ◌*◌, ◌<◌, ◌≤◌, ◌==◌, not, nat_le, List, [], ◌∷◌, ◌++◌}
use Rattle.std.specs.Prelude.{length, flat_map, All, Option, None, Some, option_map, is_none}
use Rattle.std.specs.Prelude.{unwrap_or, if◌then◌else◌}
use Rattle.std.specs.List.{list_all}
use Rattle.cu_base.specs.Fields.{number}
use Rattle.cu_base.specs.Refusals.{Row, row}
use Rattle.report_tables.specs.declared.faults.ReportFault.{ReportFault}
use Rattle.report_tables.specs.declared.faults.ReportFault.TheVariants.{NoTerminator, NotAscii}

-- the units of an ASCII text and the zero behind it
abbrev pub unit_bytes : List ℕ → List ℕ
unit_bytes text = flat_map (λ c. c ∷ 0 ∷ []) text ++ 0 ∷ 0 ∷ []

-- the units at the front of bytes up to the first zero, none where the bytes end before one
abbrev pub units_at_front : List ℕ → Option (List ℕ)
units_at_front [] = None
units_at_front (low ∷ []) = None
units_at_front (low ∷ high ∷ rest) =
    if number (low ∷ high ∷ []) == 0 then Some []
    else option_map (λ units. number (low ∷ high ∷ []) ∷ units) (units_at_front rest)

-- the same, and no units where the bytes end before a zero
abbrev pub text_at_front : List ℕ → List ℕ
text_at_front bytes = unwrap_or (units_at_front bytes) []

-- how many bytes a text takes with its zero
abbrev pub text_size : List ℕ → ℕ
text_size text = 2 * length text + 2

-- when the text at the front of bytes is refused: it has no zero, then a unit above 0x7F
abbrev pub text_rows : List ℕ → List (Row ReportFault)
text_rows bytes =
    row (is_none (units_at_front bytes)) NoTerminator
    ∷ row (not (list_all (λ unit. nat_le unit 0x7F) (text_at_front bytes))) NotAscii
    ∷ []

-- an ASCII character other than zero
pub record IsPlain (c : ℕ) : Type 0 where
  pub some : 0 < c
  pub ascii : c ≤ 0x7F
