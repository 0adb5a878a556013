-- Thin deliveries: one FMP capsule with HeaderSize 28, no driver, one image of header version 3, no
-- byte before the item and none behind its vendor code, and neither authentication data nor
-- dependencies (UEFI 2.10, 8.5.3 and 23.3).
use Rattle.std.specs.Prelude.{ℕ, Bool, ◌+◌, ◌==◌, ◌&&◌, nat_le, List, [], ◌∷◌, length, bytes_eq}
use Rattle.cu_base.specs.Fields.{field, number_at}
use Rattle.cu_base.specs.declared.limits.TheConstants.{MAX_CAPSULE_BYTES}
use Rattle.reference_machine.specs.Deliveries.{fmp_guid}
use Rattle.reference_machine.specs.Formats.{Item, Capsule}

-- the capsule header: the GUID at 0, HeaderSize at 16, CapsuleImageSize at 24
abbrev pub has_thin_header : List ℕ → Bool
has_thin_header b =
    bytes_eq (field b 0 16) fmp_guid.bytes && number_at b 16 4 == 28 && number_at b 24 4 == length b

-- the FMP header at 28: version 1, no driver, one item; and the offset of the item, 16
abbrev pub has_thin_body : List ℕ → Bool
has_thin_body b =
    number_at b 28 4 == 1 && number_at b 32 2 == 0 && number_at b 34 2 == 1
    && number_at b 36 8 == 16

-- the image header at 44: version 3, support 0, and sizes of image and vendor code up to the end
abbrev pub has_thin_image : List ℕ → Bool
has_thin_image b =
    number_at b 44 4 == 3 && number_at b 84 8 == 0
    && 92 + number_at b 68 4 + number_at b 72 4 == length b

-- the bytes are a thin delivery, which is no longer than a capsule may be
abbrev pub is_thin : List ℕ → Bool
is_thin b =
    nat_le 92 (length b) && nat_le (length b) MAX_CAPSULE_BYTES && has_thin_header b
    && has_thin_body b && has_thin_image b

-- the item of a thin delivery: type at 48, index at 64, instance at 76, image from 92 on
abbrev pub thin_item : List ℕ → Item
thin_item b = record {
  head = record {
    version = 3;
    type_id = record { bytes = field b 48 16 };
    index = number_at b 64 1;
    instance = number_at b 76 8;
    support = 0;
  };
  image = field b 92 (number_at b 68 4);
}

-- the one capsule of a thin delivery
abbrev pub thin_capsule : List ℕ → Capsule
thin_capsule b = record { guid = fmp_guid; drivers = 0; items = thin_item b ∷ [] }
