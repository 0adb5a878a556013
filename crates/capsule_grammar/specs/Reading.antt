-- The capsule that stands at the front of bytes that are not refused, read by its offsets.
use Rattle.std.specs.Prelude.{ℕ, ◌+◌, ◌-◌, List, map, drop, if◌then◌else◌}
use Rattle.std.specs.List.{range_with_len}
use Rattle.cu_base.specs.Fields.{field, number_at}
use Rattle.fmp_headers.specs.CapsuleHeader.{header_size}
use Rattle.fmp_headers.specs.ImageHeader.{image_header_fields, image_header_size, image_version}
use Rattle.capsule_grammar.specs.declared.value.Image.{Image}
use Rattle.capsule_grammar.specs.declared.value.Body.{Body}
use Rattle.capsule_grammar.specs.declared.value.Body.TheVariants.{Other, Fmp}
use Rattle.capsule_grammar.specs.declared.value.Capsule.{Capsule}
use Rattle.capsule_grammar.specs.Values.{FmpValue}
use Rattle.capsule_grammar.specs.Refusals.{is_fmp_guid, body_of, driver_count, image_count}
use Rattle.capsule_grammar.specs.Refusals.{list_end, bound, item, image_parts_size}

-- the image in the bytes of an item
abbrev pub image_of : List ℕ → Image
image_of item = record {
  header = image_header_fields item;
  image = field item (image_header_size (image_version item)) (number_at item 24 4);
  vendor = field item (image_header_size (image_version item) + number_at item 24 4)
      (number_at item 28 4);
  pad = drop (image_parts_size item) item;
}

-- the parts in the body of an FMP capsule
abbrev pub fmp_of : List ℕ → FmpValue
fmp_of body = record {
  lead = field body (list_end body) (bound body 0 - list_end body);
  drivers = map (item body) (range_with_len 0 (driver_count body));
  images = map (λ k. image_of (item body k))
      (range_with_len (driver_count body) (image_count body));
}

-- the body, by the GUID
abbrev pub body_read : List ℕ → Body
body_read bytes =
    if is_fmp_guid (field bytes 0 16) then Fmp (fmp_of (body_of bytes)) else Other (body_of bytes)

-- the capsule at the front of bytes that are not refused
abbrev pub capsule_of : List ℕ → Capsule
capsule_of bytes = record {
  guid = record { bytes = field bytes 0 16 };
  flags = number_at bytes 20 4;
  ext = field bytes 28 (header_size bytes - 28);
  body = body_read bytes;
}
