-- Where the refusal of a delivery is told: the end of the structure that its test reads, or of the
-- item, the capsule or the delivery where that is nearer.
use Rattle.std.specs.Prelude.{ℕ, zero, suc, ◌+◌, ◌-◌, ◌*◌, List, [], ◌∷◌, ◌++◌, length}
use Rattle.std.specs.Prelude.{drop, map, min, nat_lt, ◌==◌, if◌then◌else◌, Option, None, Some}
use Rattle.std.specs.List.{flat_map, range_with_len}
use Rattle.cu_base.specs.Fields.{field, number_at}
use Rattle.cu_base.specs.Refusals.{Row, row, first_refusal}
use Rattle.fmp_headers.specs.CapsuleHeader.{header_size, image_size}
use Rattle.fmp_headers.specs.ImageHeader.{image_version, is_image_version, image_header_size}
use Rattle.capsule_grammar.specs.declared.refusal.Why.{Why}
use Rattle.capsule_grammar.specs.declared.refusal.Why.TheVariants.{TooManyCapsules}
use Rattle.capsule_grammar.specs.declared.value.Capsule.{Capsule}
use Rattle.capsule_grammar.specs.BackToBack.{SpellsAll, RefusedAll}
use Rattle.capsule_grammar.specs.Refusals.{capsule_rows, fmp_front_rows, offset_rows}
use Rattle.capsule_grammar.specs.Refusals.{image_rows}
use Rattle.capsule_grammar.specs.Refusals.{is_fmp_guid, body_of, driver_count, item_count}
use Rattle.capsule_grammar.specs.Refusals.{list_end}
use Rattle.capsule_grammar.specs.Refusals.{bound, item}
use Rattle.capsule_feed.specs.Structures.{structures, within}
use Rattle.capsule_feed.specs.declared.span.Span.{Span}

-- a refusal, and the place at which it is told
pub record Told : Type 0 where
  pub reach : ℕ
  pub at : ℕ
  pub why : Why

-- rows that all read up to this place
abbrev pub reading : ℕ → List (Row (ℕ × Why)) → List (Row Told)
reading reach rows =
    map (λ r. row r.holds (record { reach = reach; at = r.refusal.0; why = r.refusal.1 })) rows

-- ---- the table of one capsule; places count from its start

-- the capsule header
abbrev pub capsule_told : List ℕ → List (Row Told)
capsule_told rest = reading (min 28 (length rest)) (capsule_rows rest)

-- the FMP header, and the offset list where its version is known
abbrev pub front_reach : List ℕ → ℕ
front_reach body = min (length body) (if number_at body 0 4 == 1 then list_end body else 8)

-- the rows of FMP header and offset list
abbrev pub fmp_front_told : List ℕ → ℕ → List (Row Told)
fmp_front_told body at = reading (at + front_reach body) (fmp_front_rows body at)

-- the one offset that is named
abbrev pub offset_told : List ℕ → ℕ → ℕ → List (Row Told)
offset_told body at k = reading (at + 16 + 8 * k) (offset_rows body at k)

-- the offsets from number k on
abbrev pub offsets_told : List ℕ → ℕ → ℕ → List (Row Told)
offsets_told body at k = flat_map (offset_told body at) (range_with_len k (item_count body - k))

-- the image header of its version, or 32 bytes of it where the version is none
abbrev pub image_reach : List ℕ → ℕ
image_reach image =
    min (length image)
    (if is_image_version (image_version image) then image_header_size (image_version image) else 32)

-- the rows of image item k
abbrev pub image_told : List ℕ → ℕ → ℕ → List (Row Told)
image_told body at k =
    reading (at + bound body k + image_reach (item body k))
    (image_rows (item body k) (at + bound body k))

-- the images from number k on
abbrev pub images_told : List ℕ → ℕ → ℕ → List (Row Told)
images_told body at k = flat_map (image_told body at) (range_with_len k (item_count body - k))

-- behind the FMP header: all offsets, then the images
abbrev pub items_told : List ℕ → ℕ → List (Row Told)
items_told body at = offsets_told body at 0 ++ images_told body at (driver_count body)

-- behind the capsule header
abbrev pub body_told : List ℕ → List (Row Told)
body_told rest =
    if is_fmp_guid (field rest 0 16)
    then fmp_front_told (body_of rest) (header_size rest)
    ++ items_told (body_of rest) (header_size rest)
    else []

-- the whole table of one capsule
abbrev pub capsule_all_told : List ℕ → List (Row Told)
capsule_all_told rest = capsule_told rest ++ body_told rest

-- ---- the whole

-- a refusal of a capsule that stands at this place
abbrev pub told_behind : ℕ → Told → Told
told_behind at t = record { reach = at + t.reach; at = at + t.at; why = t.why }

-- what is told of the bytes from this place on, where so many more capsules may stand
unfoldable pub told_from : ℕ → ℕ → List ℕ → Option Told
told_from zero at rest = Some (record { reach = at; at = at; why = TooManyCapsules })
told_from (suc more) at rest =
    elim (first_refusal (capsule_all_told rest)) [
      | Some t ↦ Some (told_behind at t)
      | None ↦
          if nat_lt (image_size rest) (length rest)
          then told_from more (at + image_size rest) (drop (image_size rest) rest)
          else None
    ]

-- what is told of the bytes from this place on, where this is what their first capsule is refused
-- for, if it is
abbrev pub told_at : ℕ → ℕ → List ℕ → Option Told → Option Told
told_at more at rest (Some t) = Some (told_behind at t)
told_at more at rest None =
    if nat_lt (image_size rest) (length rest)
    then told_from more (at + image_size rest) (drop (image_size rest) rest)
    else None

-- the refusal of a whole and the place where it is told, and None where it is accepted
abbrev pub told_of : List ℕ → Option Told
told_of whole = told_from 8 0 whole

-- up to where the structures of a whole of this length are told
abbrev pub told_end : ℕ → Option Told → ℕ
told_end total None = total
told_end total (Some t) = t.reach

-- a whole of which nothing is told is capsules back to back, and one of which something is told is
-- refused so
abbrev pub IsToldRight : List ℕ → Option Told → Type 0
IsToldRight whole None = (capsules : List Capsule) × SpellsAll capsules whole
IsToldRight whole (Some t) = RefusedAll whole t.at t.why

-- the spans of a whole: its structures, up to where its refusal is told
abbrev pub spans_of : List ℕ → List Span
spans_of whole = within 0 (told_end (length whole) (told_of whole)) (structures whole)

-- the bytes of spans, one after the other
abbrev pub joined : List ℕ → List Span → List ℕ
joined whole spans = flat_map (λ s. field whole s.at s.length) spans

-- the lengths of spans in sum
abbrev pub total_length : List Span → ℕ
total_length [] = 0
total_length (s ∷ spans) = s.length + total_length spans
