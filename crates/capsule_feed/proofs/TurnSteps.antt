-- A reader that stops goes on behind the structure in hand.
use Rattle.std.proofs.Common.{◌≡◌, ◌≢◌, ℕ, ◌+◌, ◌-◌, max, List, [], ◌∷◌, ◌++◌}
use Rattle.std.proofs.Common.{drop, inl, inr, arith, subst}
use Rattle.fmp_headers.specs.CapsuleHeader.{header_size, image_size}
use Rattle.fmp_headers.specs.ImageHeader.{image_version, image_header_size}
use Rattle.capsule_grammar.specs.Refusals.{body_of, item, driver_count}
use Rattle.capsule_feed.specs.Structures.{Structure, structure, image_parts, items_from}
use Rattle.capsule_feed.specs.Cursors.{AtBody, AtEnd, AtItem, AtParts, InDriver, InExt}
use Rattle.capsule_feed.specs.Cursors.{InImageHead, InLead}
use Rattle.capsule_feed.specs.Cursors.{InImageStart, InOther, InParts, IsLeft, images_left}
use Rattle.capsule_feed.specs.Cursors.{image_place}
use Rattle.capsule_feed.specs.Cursors.{place_of}
use Rattle.capsule_feed.specs.declared.cursor.Cursor.{Cursor}
use Rattle.capsule_feed.specs.declared.span.SpanKind.TheVariants.{Other, ImageHead}
use Rattle.capsule_feed.proofs.Goings.{left_passed}
use Rattle.capsule_feed.proofs.CapsuleSteps.{ext_left}
use Rattle.capsule_feed.proofs.FrontSteps.{past_lead}
use Rattle.capsule_feed.proofs.ItemSteps.{past_driver}

pub ext_passed : (c : Cursor) (whole : List ℕ) → InExt c whole → AtBody c whole
ext_passed c whole h = ext_left c whole (record { known = h.known; left = rw (← h.at) h.left })

pub other_passed : (c : Cursor) (whole : List ℕ) → InOther c whole → AtEnd c whole
other_passed c whole h =
    let rest = drop c.start whole in
    record {
      front = h.front;
      image = h.image;
      left = left_passed c.fate c.total c.capsule c.start c.at (c.start + image_size rest)
          (structure Other c.capsule 0 (image_size rest - header_size rest)) [] [] whole h.left
          (omega (arith, h.at, h.front.within));
    }

pub lead_passed : (c : Cursor) (own whole : List ℕ) → InLead c own whole → AtItem c own 0 whole
lead_passed c own whole h = past_lead c own whole (record { items = h.items; left = rw (← h.at) h.left })

pub driver_passed : (c : Cursor) (own whole : List ℕ) → InDriver c own whole
    → AtItem c own (c.item + 1) whole
driver_passed c own whole h =
    let rest = drop c.start whole in
    let body = body_of rest in
    let same : driver_count body ≡ max (driver_count body) c.item =
    omega (arith, h.low, h.items.fmp.drivers) in
    let left : IsLeft c.fate c.total c.capsule c.start (place_of c.start rest c.item)
    (items_from c.capsule body c.item) (images_left (max (driver_count body) c.item) rest) whole =
    subst (λ (m : ℕ). IsLeft c.fate c.total c.capsule c.start (place_of c.start rest c.item)
    (items_from c.capsule body c.item) (images_left m rest) whole) same
    (subst (λ (a : ℕ). IsLeft c.fate c.total c.capsule c.start a
    (items_from c.capsule body c.item) (images_left (driver_count body) rest) whole) h.at h.left) in
    past_driver c own c.item whole (record { items = h.items; here = omega (arith, h.here); left = left })
    h.low

-- the image header of known parts
abbrev InHeaderRest : Cursor → List ℕ → List ℕ → Type 0
InHeaderRest c own whole =
    InParts c own (place_of c.start (drop c.start whole) c.item)
    (image_place c.start (drop c.start whole) c.item)
    (λ rest. structure ImageHead c.capsule c.item
    (image_header_size (image_version (item (body_of rest) c.item)))
    ∷ image_parts c.capsule (body_of rest) c.item) whole

pub header_passed : (c : Cursor) (own whole : List ℕ) → InHeaderRest c own whole
    → AtParts c own c.stop (λ rest. image_parts c.capsule (body_of rest) c.item) whole
header_passed c own whole h =
    let rest = drop c.start whole in
    let body = body_of rest in
    record {
      items = h.items;
      parts = h.parts;
      left = left_passed c.fate c.total c.capsule c.start c.at c.stop
          (structure ImageHead c.capsule c.item (image_header_size (image_version (item body c.item))))
          (image_parts c.capsule body c.item ++ items_from c.capsule body (c.item + 1))
          (images_left (c.item + 1) rest) whole h.left (omega (arith, h.at, h.stop));
    }

-- behind its test
pub is_tested : (c : Cursor) (own whole : List ℕ) → InImageHead c own whole → c.tested ≢ c.item
    → InHeaderRest c own whole
is_tested c own whole h other =
    elim h [
      | inl new ↦ absurd (other new.0)
      | inr old ↦ old.1
    ]

pub is_start : (c : Cursor) (own whole : List ℕ) → InImageHead c own whole → c.tested ≡ c.item
    → InImageStart c own whole
is_start c own whole h same =
    elim h [
      | inl new ↦ new.1
      | inr old ↦ absurd (omega (arith, old.0, same))
    ]

-- a part that was passed
pub part_at : (c : Cursor) (own : List ℕ) (from to : ℕ) (next : List ℕ → List Structure)
    (whole : List ℕ) → InParts c own from to next whole → AtParts c own from next whole
part_at c own from to next whole h =
    record { items = h.items; parts = h.parts; left = rw (← h.at) h.left }
