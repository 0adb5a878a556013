-- A capsule whose lead and pads are empty. All else is kept.
use Rattle.std.specs.Prelude.{ℕ, ◌-◌, List, [], map, take, nat_lt, if◌then◌else◌}
use Rattle.std.specs.List.{flat_map, range_with_len}
use Rattle.cu_base.specs.Fields.{field, number_at, bytes_of}
use Rattle.fmp_headers.specs.CapsuleHeader.{header_size}
use Rattle.capsule_grammar.specs.declared.value.Image.{Image}
use Rattle.capsule_grammar.specs.declared.value.Body.{Body}
use Rattle.capsule_grammar.specs.declared.value.Body.TheVariants.{Other, Fmp}
use Rattle.capsule_grammar.specs.declared.value.Capsule.{Capsule}
use Rattle.capsule_grammar.specs.Values.{FmpValue}
use Rattle.capsule_grammar.specs.Reading.{fmp_of}
use Rattle.capsule_grammar.specs.Refusals.{body_of, driver_count, item_count, list_end, item}
use Rattle.capsule_grammar.specs.Refusals.{image_parts_size}
use Rattle.capsule_grammar.specs.Spelling.{offsets}

-- an image with an empty pad
abbrev pub without_pad : Image → Image
without_pad i = record { header = i.header; image = i.image; vendor = i.vendor; pad = [] }

-- a body with an empty lead and empty pads
abbrev pub emptied_fmp : FmpValue → FmpValue
emptied_fmp b = record { lead = []; drivers = b.drivers; images = map without_pad b.images }

-- the same of any body
abbrev pub emptied_body : Body → Body
emptied_body (Other blob) = Other blob
emptied_body (Fmp b) = Fmp (emptied_fmp b)

-- the same of a capsule
abbrev pub emptied : Capsule → Capsule
emptied c = record { guid = c.guid; flags = c.flags; ext = c.ext; body = emptied_body c.body }

-- the capsule of the header at the front of these bytes, with this body
abbrev pub with_body : List ℕ → Body → Capsule
with_body bytes body = record {
  guid = record { bytes = field bytes 0 16 };
  flags = number_at bytes 20 4;
  ext = field bytes 28 (header_size bytes - 28);
  body = body;
}

-- the FMP capsule at the front of these bytes with an empty lead and empty pads
abbrev pub emptied_on : List ℕ → Capsule
emptied_on bytes = with_body bytes (Fmp (emptied_fmp (fmp_of (body_of bytes))))

-- the bytes that are kept of item k of a body: all of a driver, and of an image what is not pad
abbrev pub kept : List ℕ → ℕ → List ℕ
kept body k =
    if nat_lt k (driver_count body) then item body k
    else take (image_parts_size (item body k)) (item body k)

-- what is kept of each item, in order
abbrev pub kept_items : List ℕ → List (List ℕ)
kept_items body = map (kept body) (range_with_len 0 (item_count body))

-- the offset list of the items that are kept, which begin behind it
abbrev pub kept_list : List ℕ → List ℕ
kept_list body = flat_map (bytes_of 8) (offsets (list_end body) (kept_items body))
