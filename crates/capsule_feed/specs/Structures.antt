-- The structures of a delivery, capsules back to back, in order (UEFI 2.10, 8.5.3 and 23.3.2), and
-- what of them lies between two places.
use Rattle.std.specs.Prelude.{ℕ, zero, suc, ◌+◌, ◌-◌, ◌*◌, List, [], ◌∷◌, ◌++◌, drop, min}
use Rattle.std.specs.Prelude.{max, nat_lt, if◌then◌else◌}
use Rattle.std.specs.List.{flat_map, range_with_len}
use Rattle.cu_base.specs.Fields.{field, number_at}
use Rattle.fmp_headers.specs.CapsuleHeader.{header_size, image_size}
use Rattle.fmp_headers.specs.ImageHeader.{image_header_size, image_version}
use Rattle.capsule_grammar.specs.Refusals.{is_fmp_guid, body_of, driver_count, item_count}
use Rattle.capsule_grammar.specs.Refusals.{list_end}
use Rattle.capsule_grammar.specs.Refusals.{bound, item, image_parts_size}
use Rattle.capsule_feed.specs.declared.span.Span.{Span}
use Rattle.capsule_feed.specs.declared.span.SpanKind.{SpanKind}
use Rattle.capsule_feed.specs.declared.span.SpanKind.TheVariants.{Header, Ext, Other, FmpHead}
use Rattle.capsule_feed.specs.declared.span.SpanKind.TheVariants.{Offsets, Lead, Driver}
use Rattle.capsule_feed.specs.declared.span.SpanKind.TheVariants.{ImageHead}
use Rattle.capsule_feed.specs.declared.span.SpanKind.TheVariants.{Image, Vendor, Pad}

-- so many bytes of one kind, in a capsule and an item of these numbers
pub record Structure : Type 0 where
  pub kind : SpanKind
  pub capsule : ℕ
  pub item : ℕ
  pub size : ℕ

-- a structure of these parts
abbrev pub structure : SpanKind → ℕ → ℕ → ℕ → Structure
structure kind capsule item size = record {
  kind = kind;
  capsule = capsule;
  item = item;
  size = size;
}

-- ---- one capsule, of this number

-- the size of an item, up to where the next one begins
abbrev pub item_size : List ℕ → ℕ → ℕ
item_size body k = bound body (k + 1) - bound body k

-- what stands behind the header of image item k
abbrev pub image_parts : ℕ → List ℕ → ℕ → List Structure
image_parts c body k =
    structure Image c k (number_at (item body k) 24 4)
    ∷ structure Vendor c k (number_at (item body k) 28 4)
    ∷ structure Pad c k (item_size body k - image_parts_size (item body k))
    ∷ []

-- item k: a driver, or header, update image, vendor code and pad
abbrev pub item_structures : ℕ → List ℕ → ℕ → List Structure
item_structures c body k =
    if nat_lt k (driver_count body) then structure Driver c k (item_size body k) ∷ []
    else structure ImageHead c k (image_header_size (image_version (item body k)))
    ∷ image_parts c body k

-- the items from number k on
abbrev pub items_from : ℕ → List ℕ → ℕ → List Structure
items_from c body k = flat_map (item_structures c body) (range_with_len k (item_count body - k))

-- the lead and the items
abbrev pub behind_list : ℕ → List ℕ → List Structure
behind_list c body = structure Lead c 0 (bound body 0 - list_end body) ∷ items_from c body 0

-- the offset list and what stands behind it
abbrev pub behind_fmp_head : ℕ → List ℕ → List Structure
behind_fmp_head c body = structure Offsets c 0 (8 * item_count body) ∷ behind_list c body

-- the body: that of an FMP capsule, or bytes
abbrev pub body_structures : ℕ → List ℕ → List Structure
body_structures c rest =
    if is_fmp_guid (field rest 0 16) then structure FmpHead c 0 8 ∷ behind_fmp_head c (body_of rest)
    else structure Other c 0 (image_size rest - header_size rest) ∷ []

-- what stands behind the fields of the capsule header
abbrev pub behind_header : ℕ → List ℕ → List Structure
behind_header c rest = structure Ext c 0 (header_size rest - 28) ∷ body_structures c rest

-- the capsule at the front of these bytes
abbrev pub capsule_structures : ℕ → List ℕ → List Structure
capsule_structures c rest = structure Header c 0 28 ∷ behind_header c rest

-- ---- capsules back to back

-- so many capsules, of which the first has this number and stands at the front of the bytes
unfoldable pub capsules_from : ℕ → ℕ → List ℕ → List Structure
capsules_from zero c rest = []
capsules_from (suc more) c rest =
    capsule_structures c rest ++ capsules_from more (c + 1) (drop (image_size rest) rest)

-- the sizes of structures in sum
abbrev pub size_of : List Structure → ℕ
size_of [] = 0
size_of (s ∷ structures) = s.size + size_of structures

-- each structure begins where the one before it ends, the first at this place
abbrev pub placed : ℕ → List Structure → List Span
placed at [] = []
placed at (s ∷ structures) =
    record { kind = s.kind; capsule = s.capsule; item = s.item; at = at; length = s.size }
    ∷ placed (at + s.size) structures

-- The structures of a whole, at their places. Behind the place where its refusal is told they are
-- not of the whole: `within` leaves them out.
abbrev pub structures : List ℕ → List Span
structures whole = placed 0 (capsules_from 8 0 whole)

-- ---- what lies between two places

-- what of a span lies between two places, where a byte does
abbrev pub cut_to : ℕ → ℕ → Span → List Span
cut_to from to s =
    if nat_lt (max from s.at) (min to (s.at + s.length))
    then (record {
      kind = s.kind;
      capsule = s.capsule;
      item = s.item;
      at = max from s.at;
      length = min to (s.at + s.length) - max from s.at;
    }) ∷ []
    else []

-- the spans between two places, the first and the last of them cut there, without empty ones
abbrev pub within : ℕ → ℕ → List Span → List Span
within from to spans = flat_map (cut_to from to) spans
