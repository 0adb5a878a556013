-- The payload header, FMP_PAYLOAD_HEADER (EDK II, FmpDevicePkg, FmpPayloadHeaderLibV1): Signature
-- `MSS1`, HeaderSize, FwVersion and LowestSupportedVersion, in 4 bytes each. HeaderSize counts
-- these 16 bytes and what follows them up to the payload.
use Rattle.std.specs.Prelude.{◌≡◌, ℕ, ◌+◌, ◌^◌, ◌<◌, Bool, ◌||◌, not, List, [], ◌∷◌, ◌++◌, length}
use Rattle.std.specs.Prelude.{nat_lt}
use Rattle.std.specs.Str.{bytes_eq}
use Rattle.cu_base.specs.Fields.{field, number_at, bytes_of}
use Rattle.cu_base.specs.Refusals.{Row, row_at}
use Rattle.image_parts.specs.declared.fault.PartWhy.{PartWhy}
use Rattle.image_parts.specs.declared.fault.PartWhy.TheVariants.{ShortPayloadHeader, BadSignature}
use Rattle.image_parts.specs.declared.fault.PartWhy.TheVariants.{BadPayloadHeaderSize}
use Rattle.image_parts.specs.declared.value.PayloadHead.{PayloadHead}

-- the letters `MSS1`
abbrev pub signature : List ℕ
signature = 0x4D ∷ 0x53 ∷ 0x53 ∷ 0x31 ∷ []

-- HeaderSize, the number at 4
abbrev pub header_size : List ℕ → ℕ
header_size rest = number_at rest 4 4

-- HeaderSize below 16 or past the end of so many bytes
abbrev pub has_bad_size : List ℕ → ℕ → Bool
has_bad_size front size = nat_lt (header_size front) 16 || nat_lt size (header_size front)

-- when the payload header at the front of so many bytes is refused, in order; the bytes begin at
-- this place of the image
abbrev pub payload_header_rows_of : List ℕ → ℕ → ℕ → List (Row (ℕ × PartWhy))
payload_header_rows_of front size at =
    row_at (nat_lt size 16) at ShortPayloadHeader
    ∷ row_at (not (bytes_eq (field front 0 4) signature)) at BadSignature
    ∷ row_at (has_bad_size front size) (at + 4) BadPayloadHeaderSize
    ∷ []

-- when the payload header at the front of bytes is refused, in order
abbrev pub payload_header_rows : List ℕ → ℕ → List (Row (ℕ × PartWhy))
payload_header_rows rest at = payload_header_rows_of rest (length rest) at

-- the fields at their places
abbrev pub payload_head_at : List ℕ → PayloadHead
payload_head_at rest = record {
  header_size = header_size rest;
  version = number_at rest 8 4;
  lowest = number_at rest 12 4;
}

-- the bytes of the fields
abbrev pub payload_head_bytes : PayloadHead → List ℕ
payload_head_bytes h = signature ++ bytes_of 4 h.header_size ++ bytes_of 4 h.version
    ++ bytes_of 4 h.lowest

-- each field has its width, and HeaderSize counts the fields and these bytes
pub record IsPayloadHead (h : PayloadHead) (extra : List ℕ) : Type 0 where
  pub header_size : h.header_size ≡ 16 + length extra
  pub width : h.header_size < 2 ^ 32
  pub version : h.version < 2 ^ 32
  pub lowest : h.lowest < 2 ^ 32
