-- The capsule header, EFI_CAPSULE_HEADER (UEFI 2.10, 8.5.3): CapsuleGuid in 16 bytes, then
-- HeaderSize, Flags and CapsuleImageSize in 4 bytes each. CapsuleImageSize counts the header.
use Rattle.std.specs.Prelude.{◌≡◌, ℕ, ◌^◌, ◌<◌, ◌≤◌, Bool, ◌||◌, List, [], ◌∷◌, ◌++◌, length}
use Rattle.std.specs.Prelude.{nat_lt, Option, None, Some, Result, Ok, Err}
use Rattle.cu_base.specs.Fields.{field, number_at, bytes_of}
use Rattle.cu_base.specs.Refusals.{Row, row, first_refusal}
use Rattle.cu_base.specs.declared.limits.TheConstants.{MAX_CAPSULE_BYTES}
use Rattle.fmp_headers.specs.declared.capsule.CapsuleHeader.{CapsuleHeader}
use Rattle.fmp_headers.specs.declared.faults.HeaderFault.{HeaderFault}
use Rattle.fmp_headers.specs.declared.faults.HeaderFault.TheVariants.{Short, BadHeaderSize}
use Rattle.fmp_headers.specs.declared.faults.HeaderFault.TheVariants.{BadImageSize}

-- HeaderSize, the number at 16
abbrev pub header_size : List ℕ → ℕ
header_size bytes = number_at bytes 16 4

-- CapsuleImageSize, the number at 24
abbrev pub image_size : List ℕ → ℕ
image_size bytes = number_at bytes 24 4

-- fewer bytes than the fields take
abbrev pub is_short : List ℕ → Bool
is_short bytes = nat_lt (length bytes) 28

-- HeaderSize below 28 or above CapsuleImageSize
abbrev pub has_bad_header_size : List ℕ → Bool
has_bad_header_size bytes =
    nat_lt (header_size bytes) 28 || nat_lt (image_size bytes) (header_size bytes)

-- CapsuleImageSize above the limit of a capsule
abbrev pub is_above_limit : List ℕ → Bool
is_above_limit bytes = nat_lt MAX_CAPSULE_BYTES (image_size bytes)

-- when a capsule header is refused, in order
abbrev pub capsule_header_rows : List ℕ → List (Row HeaderFault)
capsule_header_rows bytes =
    row (is_short bytes) Short
    ∷ row (has_bad_header_size bytes) BadHeaderSize
    ∷ row (is_above_limit bytes) BadImageSize
    ∷ []

-- the fields at their places
abbrev pub capsule_header_fields : List ℕ → CapsuleHeader
capsule_header_fields bytes = record {
  guid = record { bytes = field bytes 0 16 };
  header_size = header_size bytes;
  flags = number_at bytes 20 4;
  image_size = image_size bytes;
}

-- the header, or the cause where one is refused
abbrev pub header_or : {H : Type 0} → Option HeaderFault → H → Result H HeaderFault
header_or None header = Ok header
header_or (Some fault) header = Err fault

-- the header, or the cause of the first row that holds
abbrev pub capsule_header : List ℕ → Result CapsuleHeader HeaderFault
capsule_header bytes =
    header_or (first_refusal (capsule_header_rows bytes)) (capsule_header_fields bytes)

-- the layout of a header
abbrev pub capsule_header_bytes : CapsuleHeader → List ℕ
capsule_header_bytes h =
    h.guid.bytes ++ bytes_of 4 h.header_size ++ bytes_of 4 h.flags ++ bytes_of 4 h.image_size

-- each field has its width, and HeaderSize and CapsuleImageSize are not refused
pub record IsCapsuleHeader (h : CapsuleHeader) : Type 0 where
  pub guid : length h.guid.bytes ≡ 16
  pub flags : h.flags < 2 ^ 32
  pub header_size : 28 ≤ h.header_size
  pub within : h.header_size ≤ h.image_size
  pub image_size : h.image_size ≤ MAX_CAPSULE_BYTES
