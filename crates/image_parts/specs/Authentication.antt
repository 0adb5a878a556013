-- The authentication data of an update image, EFI_FIRMWARE_IMAGE_AUTHENTICATION (UEFI 2.10, 23.1):
-- MonotonicCount in 8 bytes, then WIN_CERTIFICATE_UEFI_GUID: dwLength in 4, wRevision and
-- wCertificateType in 2 each, CertType in 16, and CertData. dwLength counts from its own place.
use Rattle.std.specs.Prelude.{◌≡◌, ℕ, ◌+◌, ◌-◌, ◌^◌, ◌<◌, Bool, ◌||◌, not, List, [], ◌∷◌, ◌++◌}
use Rattle.std.specs.Prelude.{length, nat_lt, ◌==◌}
use Rattle.cu_base.specs.Fields.{field, number_at, bytes_of}
use Rattle.cu_base.specs.Refusals.{Row, row_at}
use Rattle.image_parts.specs.declared.fault.PartWhy.{PartWhy}
use Rattle.image_parts.specs.declared.fault.PartWhy.TheVariants.{ShortAuth, BadAuthLength}
use Rattle.image_parts.specs.declared.fault.PartWhy.TheVariants.{BadRevision, BadCertType}
use Rattle.image_parts.specs.Values.{AuthValue}

-- dwLength, the number at 8
abbrev pub certificate_size : List ℕ → ℕ
certificate_size image = number_at image 8 4

-- MonotonicCount and what dwLength counts
abbrev pub authentication_size : List ℕ → ℕ
authentication_size image = 8 + certificate_size image

-- dwLength below the fields that it counts, or past the end of an image of this size
abbrev pub has_bad_length : List ℕ → ℕ → Bool
has_bad_length front size =
    nat_lt (certificate_size front) 24 || nat_lt size (authentication_size front)

-- the rows of wRevision and wCertificateType
abbrev pub certificate_rows : List ℕ → List (Row (ℕ × PartWhy))
certificate_rows image =
    row_at (not (number_at image 12 2 == 0x0200)) 12 BadRevision
    ∷ row_at (not (number_at image 14 2 == 0x0EF1)) 14 BadCertType
    ∷ []

-- when authentication data is refused, in order, in an image of this size that has this front
abbrev pub authentication_rows_of : List ℕ → ℕ → List (Row (ℕ × PartWhy))
authentication_rows_of front size =
    row_at (nat_lt size 32) 0 ShortAuth
    ∷ row_at (has_bad_length front size) 8 BadAuthLength
    ∷ certificate_rows front

-- when authentication data is refused, in order
abbrev pub authentication_rows : List ℕ → List (Row (ℕ × PartWhy))
authentication_rows image = authentication_rows_of image (length image)

-- the fields at their places, and CertData up to the end that dwLength gives
abbrev pub authentication_at : List ℕ → AuthValue
authentication_at image = record {
  monotonic = number_at image 0 8;
  cert_type = record { bytes = field image 16 16 };
  cert = field image 32 (authentication_size image - 32);
}

-- the bytes of authentication data, by the lengths of its value: wRevision is 0x0200,
-- wCertificateType is 0x0EF1
abbrev pub authentication_bytes : AuthValue → List ℕ
authentication_bytes a =
    bytes_of 8 a.monotonic ++ bytes_of 4 (24 + length a.cert) ++ bytes_of 2 0x0200
    ++ bytes_of 2 0x0EF1
    ++ a.cert_type.bytes ++ a.cert

-- each field has its width
pub record IsAuthentication (a : AuthValue) : Type 0 where
  pub monotonic : a.monotonic < 2 ^ 64
  pub cert_type : length a.cert_type.bytes ≡ 16
  pub cert : 24 + length a.cert < 2 ^ 32
