-- The capsule of a recipe (UEFI 2.10, 8.5.3 and 23.3.2): its drivers, and its items as update
-- images of their parts (UEFI 2.10, 23.1 and 23.2; EDK II, FmpPayloadHeaderLibV1). An empty driver
-- before another item gets one zero byte, since items begin at places that rise.
use Rattle.std.specs.Prelude.{◌≡◌, ℕ, ◌+◌, ◌^◌, ◌<◌, nat_lt, List, [], ◌∷◌, map, length, Option}
use Rattle.std.specs.Prelude.{None, Some, is_some, unwrap_or, if◌then◌else◌}
use Rattle.cu_io.specs.Named.{Named, bytes_named}
use Rattle.fmp_headers.specs.declared.image.ImageHeader.{ImageHeader}
use Rattle.capsule_grammar.specs.declared.value.Body.{Body}
use Rattle.capsule_grammar.specs.declared.value.Body.TheVariants.{Other, Fmp}
use Rattle.capsule_grammar.specs.declared.value.Capsule.{Capsule}
use Rattle.capsule_grammar.specs.declared.value.Image.{Image}
use Rattle.capsule_grammar.specs.Values.{FmpValue}
use Rattle.image_parts.specs.declared.value.PayloadHead.{PayloadHead}
use Rattle.image_parts.specs.Parts.{parts_bytes}
use Rattle.image_parts.specs.Values.{AuthValue, PartsValue}
use Rattle.recipe_files.specs.Recipes.{BodyValue, ItemValue, RecipeValue, other, fmp}

-- the bytes of each name
abbrev pub Contents : Type 0
Contents = List ℕ → List ℕ

-- the bytes of the inputs that are loaded
abbrev pub contents_of : Named → Contents
contents_of loaded name = unwrap_or (bytes_named loaded name) []

-- a driver before another item: an empty one gets a zero byte
abbrev pub filled : List ℕ → List ℕ
filled [] = 0 ∷ []
filled (b ∷ bytes) = b ∷ bytes

-- drivers before so many payload items; the last of all items may be empty
abbrev pub drivers_of : ℕ → List (List ℕ) → List (List ℕ)
drivers_of later [] = []
drivers_of later (d ∷ ds) =
    (if nat_lt 0 (length ds + later) then filled d else d) ∷ drivers_of later ds

-- the authentication data of the keys of an item
abbrev pub certificate_of : ItemValue → AuthValue
certificate_of i =
    record { monotonic = i.monotonic; cert_type = i.cert_type; cert = i.cert }

-- the authentication data of an item, where it has any
abbrev pub auth_of : ItemValue → Option AuthValue
auth_of i = if i.auth then Some (certificate_of i) else None

-- the payload header of an item, of 16 bytes
abbrev pub head_of : ItemValue → PayloadHead
head_of i = record { header_size = 16; version = i.fw_version; lowest = i.lowest }

-- the parts of the update image of an item
abbrev pub parts_of : Contents → ItemValue → PartsValue
parts_of contents i = record {
  auth = auth_of i;
  dep = i.dep;
  head = head_of i;
  extra = [];
  payload = contents i.payload;
}

-- ImageCapsuleSupport of an item: bit 0 tells authentication data, bit 1 a section
abbrev pub support_of : ItemValue → ℕ
support_of i = (if i.auth then 1 else 0) + (if is_some i.dep then 2 else 0)

-- the update image of an item
abbrev pub update_image : Contents → ItemValue → List ℕ
update_image contents i = parts_bytes (parts_of contents i)

-- the image header of an item; UpdateImageSize does not count it
abbrev pub header_of : Contents → ItemValue → ImageHeader
header_of contents i = record {
  version = i.header;
  type_id = i.type_id;
  index = i.index;
  reserved = 0 ∷ 0 ∷ 0 ∷ [];
  image_size = length (update_image contents i);
  vendor_size = length i.vendor;
  instance = i.instance;
  support = support_of i;
}

-- the image item of an item
abbrev pub image_of : Contents → ItemValue → Image
image_of contents i = record {
  header = header_of contents i;
  image = update_image contents i;
  vendor = i.vendor;
  pad = [];
}

-- the body of an FMP capsule
abbrev pub fmp_of : Contents → List (List ℕ) → List ItemValue → FmpValue
fmp_of contents drivers items = record {
  lead = [];
  drivers = drivers_of (length items) (map contents drivers);
  images = map (image_of contents) items;
}

-- the body of the capsule
abbrev pub body_of : Contents → BodyValue → Body
body_of contents (other name) = Other (contents name)
body_of contents (fmp drivers items) = Fmp (fmp_of contents drivers items)

-- the capsule of a recipe
abbrev pub capsule_of : Contents → RecipeValue → Capsule
capsule_of contents r = record {
  guid = r.guid;
  flags = r.flags;
  ext = r.ext;
  body = body_of contents r.body;
}

-- each field of an item has its width, as those of every value of the program do, and its
-- certificate is counted in 32 bits
pub record HasWidths (i : ItemValue) : Type 0 where
  pub fw_version : i.fw_version < 2 ^ 32
  pub lowest : i.lowest < 2 ^ 32
  pub cert_type : length i.cert_type.bytes ≡ 16
  pub cert : 24 + length i.cert < 2 ^ 32
