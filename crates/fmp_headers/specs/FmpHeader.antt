-- The FMP capsule header, EFI_FIRMWARE_MANAGEMENT_CAPSULE_HEADER (UEFI 2.10, 23.3.2): Version in 4
-- bytes, then EmbeddedDriverCount and PayloadItemCount in 2 bytes each.
use Rattle.std.specs.Prelude.{ℕ, ◌^◌, ◌<◌, List, [], ◌∷◌, ◌++◌, length, nat_lt, ◌==◌, not, Result}
use Rattle.cu_base.specs.Fields.{number_at, bytes_of}
use Rattle.cu_base.specs.Refusals.{Row, row, first_refusal}
use Rattle.fmp_headers.specs.CapsuleHeader.{header_or}
use Rattle.fmp_headers.specs.declared.fmp.FmpHeader.{FmpHeader}
use Rattle.fmp_headers.specs.declared.faults.HeaderFault.{HeaderFault}
use Rattle.fmp_headers.specs.declared.faults.HeaderFault.TheVariants.{Short, BadFmpVersion}

-- the GUID 6dcbd5ed-e82d-4c44-bda1-7194199ad92a as its bytes stand in a capsule
abbrev pub fmp_guid_bytes : List ℕ
fmp_guid_bytes =
    0xED ∷ 0xD5 ∷ 0xCB ∷ 0x6D ∷ 0x2D ∷ 0xE8 ∷ 0x44 ∷ 0x4C
    ∷ 0xBD ∷ 0xA1 ∷ 0x71 ∷ 0x94 ∷ 0x19 ∷ 0x9A ∷ 0xD9 ∷ 0x2A ∷ []

-- when an FMP header is refused: below 8 bytes, then where Version is not 1
abbrev pub fmp_header_rows : List ℕ → List (Row HeaderFault)
fmp_header_rows bytes =
    row (nat_lt (length bytes) 8) Short
    ∷ row (not (number_at bytes 0 4 == 1)) BadFmpVersion
    ∷ []

-- the fields at their places
abbrev pub fmp_header_fields : List ℕ → FmpHeader
fmp_header_fields bytes = record { drivers = number_at bytes 4 2; items = number_at bytes 6 2 }

-- the header, or the cause of the first row that holds
abbrev pub fmp_header : List ℕ → Result FmpHeader HeaderFault
fmp_header bytes = header_or (first_refusal (fmp_header_rows bytes)) (fmp_header_fields bytes)

-- the layout of a header
abbrev pub fmp_header_bytes : FmpHeader → List ℕ
fmp_header_bytes h = bytes_of 4 1 ++ bytes_of 2 h.drivers ++ bytes_of 2 h.items

-- each field has its width
pub record IsFmpHeader (h : FmpHeader) : Type 0 where
  pub drivers : h.drivers < 2 ^ 16
  pub items : h.items < 2 ^ 16
