-- The header of an image item, EFI_FIRMWARE_MANAGEMENT_CAPSULE_IMAGE_HEADER (UEFI 2.10, 23.3.2):
-- Version in 4 bytes, UpdateImageTypeId in 16, UpdateImageIndex in 1, 3 reserved bytes,
-- UpdateImageSize and UpdateVendorCodeSize in 4 bytes each. Version 2 adds UpdateHardwareInstance
-- in 8 bytes, version 3 also ImageCapsuleSupport in 8.
use Rattle.std.specs.Prelude.{◌≡◌, ℕ, ◌^◌, ◌<◌, IsTrue, Bool, ◌||◌, not, List, [], ◌∷◌, ◌++◌, ◌&&◌}
use Rattle.std.specs.Prelude.{length, slice_index, nat_lt, ◌==◌, if◌then◌else◌, Result}
use Rattle.cu_base.specs.Fields.{field, number_at, bytes_of}
use Rattle.cu_base.specs.Refusals.{Row, row, first_refusal}
use Rattle.fmp_headers.specs.CapsuleHeader.{header_or}
use Rattle.fmp_headers.specs.declared.image.ImageHeader.{ImageHeader}
use Rattle.fmp_headers.specs.declared.faults.HeaderFault.{HeaderFault}
use Rattle.fmp_headers.specs.declared.faults.HeaderFault.TheVariants.{Short, BadImageVersion}

-- Version, the number at 0
abbrev pub image_version : List ℕ → ℕ
image_version bytes = number_at bytes 0 4

-- version 1, 2 or 3
abbrev pub is_image_version : ℕ → Bool
is_image_version version = version == 1 || version == 2 || version == 3

-- the bytes of a header of this version
abbrev pub image_header_size : ℕ → ℕ
image_header_size version = if version == 1 then 32 else if version == 2 then 40 else 48

-- when an image header is refused: below 32 bytes, then an unknown version, then below the bytes of
-- that version
abbrev pub image_header_rows : List ℕ → List (Row HeaderFault)
image_header_rows bytes =
    row (nat_lt (length bytes) 32) Short
    ∷ row (not (is_image_version (image_version bytes))) BadImageVersion
    ∷ row (nat_lt (length bytes) (image_header_size (image_version bytes))) Short
    ∷ []

-- UpdateHardwareInstance, which a header of version 1 has not: it is 0
abbrev pub instance_at : ℕ → List ℕ → ℕ
instance_at version bytes = if version == 1 then 0 else number_at bytes 32 8

-- ImageCapsuleSupport, which a header of version 1 or 2 has not: it is 1, authentication data alone
abbrev pub support_at : ℕ → List ℕ → ℕ
support_at version bytes = if version == 3 then number_at bytes 40 8 else 1

-- the fields at their places
abbrev pub image_header_fields : List ℕ → ImageHeader
image_header_fields bytes = record {
  version = image_version bytes;
  type_id = record { bytes = field bytes 4 16 };
  index = slice_index bytes 20;
  reserved = field bytes 21 3;
  image_size = number_at bytes 24 4;
  vendor_size = number_at bytes 28 4;
  instance = instance_at (image_version bytes) bytes;
  support = support_at (image_version bytes) bytes;
}

-- the header, or the cause of the first row that holds
abbrev pub image_header : List ℕ → Result ImageHeader HeaderFault
image_header bytes = header_or (first_refusal (image_header_rows bytes)) (image_header_fields bytes)

-- The version is known, version 1 has instance 0, and only version 3 has a support other than 1.
abbrev pub keeps_version_rules : ImageHeader → Bool
keeps_version_rules h =
    is_image_version h.version
    && (not (h.version == 1) || h.instance == 0)
    && (h.version == 3 || h.support == 1)

-- the layout of a header
abbrev pub image_header_bytes : ImageHeader → List ℕ
image_header_bytes h =
    bytes_of 4 h.version ++ h.type_id.bytes ++ h.index ∷ [] ++ h.reserved
    ++ bytes_of 4 h.image_size ++ bytes_of 4 h.vendor_size
    ++ (if h.version == 1 then [] else bytes_of 8 h.instance)
    ++ (if h.version == 3 then bytes_of 8 h.support else [])

-- each field has its width, and the header keeps the rules of its version
pub record IsImageHeader (h : ImageHeader) : Type 0 where
  pub type_id : length h.type_id.bytes ≡ 16
  pub index : h.index < 2 ^ 8
  pub reserved : length h.reserved ≡ 3
  pub image_size : h.image_size < 2 ^ 32
  pub vendor_size : h.vendor_size < 2 ^ 32
  pub instance : h.instance < 2 ^ 64
  pub support : h.support < 2 ^ 64
  pub rules : IsTrue (keeps_version_rules h)
