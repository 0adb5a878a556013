-- The one spelling of a capsule (UEFI 2.10, 8.5.3 and 23.3.2), written by the lengths and bytes of
-- its value. No offset is followed: an offset is what stands before its item, in sum.
use Rattle.std.specs.Prelude.{ℕ, ◌+◌, ◌*◌, List, [], ◌∷◌, ◌++◌, length, map}
use Rattle.std.specs.List.{flat_map, concat}
use Rattle.cu_base.specs.Fields.{bytes_of}
use Rattle.fmp_headers.specs.CapsuleHeader.{capsule_header_bytes}
use Rattle.fmp_headers.specs.FmpHeader.{fmp_header_bytes}
use Rattle.fmp_headers.specs.ImageHeader.{image_header_bytes}
use Rattle.fmp_headers.specs.declared.capsule.CapsuleHeader.{CapsuleHeader}
use Rattle.capsule_grammar.specs.declared.value.Image.{Image}
use Rattle.capsule_grammar.specs.declared.value.Body.{Body}
use Rattle.capsule_grammar.specs.declared.value.Body.TheVariants.{Other, Fmp}
use Rattle.capsule_grammar.specs.declared.value.Capsule.{Capsule}
use Rattle.capsule_grammar.specs.Values.{FmpValue}

-- an image item: header, update image, vendor code and pad
abbrev pub image_bytes : Image → List ℕ
image_bytes i = image_header_bytes i.header ++ (i.image ++ (i.vendor ++ i.pad))

-- the items in order, drivers first
abbrev pub item_bytes : FmpValue → List (List ℕ)
item_bytes b = b.drivers ++ map image_bytes b.images

-- where each item begins, if the first begins here
abbrev pub offsets : ℕ → List (List ℕ) → List ℕ
offsets here [] = []
offsets here (item ∷ items) = here ∷ offsets (here + length item) items

-- where the first item begins, behind FMP header, offset list and lead; it counts from the FMP
-- header
abbrev pub first_place : FmpValue → ℕ
first_place b = 8 + 8 * length (item_bytes b) + length b.lead

-- where each item begins, in 8 bytes each
abbrev pub offset_list : FmpValue → List ℕ
offset_list b = flat_map (bytes_of 8) (offsets (first_place b) (item_bytes b))

-- FMP header, offset list, lead and items
abbrev pub fmp_bytes : FmpValue → List ℕ
fmp_bytes b =
    let header = fmp_header_bytes
    (record { drivers = length b.drivers; items = length b.images }) in
    header ++ (offset_list b ++ (b.lead ++ concat (item_bytes b)))

-- the bytes of a body
abbrev pub body_bytes : Body → List ℕ
body_bytes (Other blob) = blob
body_bytes (Fmp b) = fmp_bytes b

-- HeaderSize counts the header and ext, CapsuleImageSize counts all
abbrev pub header_of : Capsule → CapsuleHeader
header_of c = record {
  guid = c.guid;
  header_size = 28 + length c.ext;
  flags = c.flags;
  image_size = 28 + length c.ext + length (body_bytes c.body);
}

-- capsule header, ext and body
abbrev pub spelling : Capsule → List ℕ
spelling c = capsule_header_bytes (header_of c) ++ (c.ext ++ body_bytes c.body)
