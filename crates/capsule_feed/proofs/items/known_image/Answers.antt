use Rattle.std.proofs.Common.{◌≡◌, ◌<◌, ◌+◌, ◌++◌, ℕ, [], drop, refl, sym, ap, arith}
use Rattle.std.proofs.Common.{subst, inr}
use Rattle.fmp_headers.specs.ImageHeader.{image_header_size, image_version}
use Rattle.capsule_grammar.specs.Refusals.{body_of, item}
use Rattle.capsule_feed.specs.Structures.{image_parts, items_from, structure}
use Rattle.capsule_feed.specs.Cursors.{Goes, ImageIs, IsLeft, images_left}
use Rattle.capsule_feed.specs.declared.cursor.Cursor.{Cursor}
use Rattle.capsule_feed.specs.declared.span.SpanKind.TheVariants.{ImageHead}
use Rattle.capsule_feed.proofs.Goings.{left_passed}
use Rattle.capsule_feed.proofs.Reaches.{header_least}
use Rattle.capsule_feed.proofs.ItemSteps.{few, part_goes_at, part_places}
use Rattle.capsule_feed.proofs.ImageSteps.{image_known}
use Rattle.capsule_feed.proofs.items.known_image.Goals as goal

pub returns-then-c-image_at : goal.returns-then-c-image_at
returns-then-c-image_at c = λ whole s h none.
    let k = c.args.c in
    let own = c.args.own.now in
    let head = c.args.head.now in
    let rest = drop k.start whole in
    let body = body_of rest in
    let image_at = c.saturating_add-image_at.result in
    let v = c.saturating_add-vendor_at.result in
    let p = c.saturating_add-2.result in
    let known = image_known k own head whole v p image_at s h c.requires none
    (omega (
      arith,
      c.saturating_add-image_at.ensures,
      c.image_header_size.ensures,
      ap image_header_size c.u32_at.ensures,
    ))
    (omega (arith, c.saturating_add-vendor_at.ensures, c.u32_at-2.ensures))
    (omega (arith, c.saturating_add-2.ensures, c.u32_at-3.ensures)) in
    let parts : ImageIs k.start k.item v p k.item_end rest = known.1 in
    let stop : k.stop ≡ image_at = c.if-c-image_at.true in
    let hs = image_header_size (image_version (item body k.item)) in
    let left : IsLeft k.fate k.total k.capsule k.start image_at
    (image_parts k.capsule body k.item ++ items_from k.capsule body (k.item + 1))
    (images_left (k.item + 1) rest) whole =
    left_passed k.fate k.total k.capsule k.start k.at image_at
    (structure ImageHead k.capsule k.item hs)
    (image_parts k.capsule body k.item ++ items_from k.capsule body (k.item + 1))
    (images_left (k.item + 1) rest) whole known.2 (omega (arith, known.0, s.at)) in
    subst (λ (x : ℕ). Goes c.begin_image.result own [] x whole) (sym stop)
    (c.begin_image.ensures whole known.0
    (record { items = s.items; parts = parts; left = left }))

pub returns : goal.returns
returns c = λ whole s h none.
    let k = c.args.c in
    let own = c.args.own.now in
    let head = c.args.head.now in
    let rest = drop k.start whole in
    let body = body_of rest in
    let image_at = c.saturating_add-image_at.result in
    let v = c.saturating_add-vendor_at.result in
    let p = c.saturating_add-2.result in
    let known = image_known k own head whole v p image_at s h c.requires none
    (omega (
      arith,
      c.saturating_add-image_at.ensures,
      c.image_header_size.ensures,
      ap image_header_size c.u32_at.ensures,
    ))
    (omega (arith, c.saturating_add-vendor_at.ensures, c.u32_at-2.ensures))
    (omega (arith, c.saturating_add-2.ensures, c.u32_at-3.ensures)) in
    let parts : ImageIs k.start k.item v p k.item_end rest = known.1 in
    let next : Cursor = record k { stop = image_at; tested = k.item + 1; vendor_at = v; pad_at = p } in
    let number : c.saturating_add.result ≡ k.item + 1 =
    omega (
      arith,
      c.saturating_add.ensures,
      s.here,
      few k.header_size k.image_size k.drivers k.items rest s.items.fmp,
    ) in
    let hs = image_header_size (image_version (item body k.item)) in
    let places = part_places k.start k.item v p k.item_end rest parts s.items.bounds in
    let least = header_least (image_version (item body k.item)) in
    let more : k.stop < image_at = omega (arith, s.stop, known.0, s.at, least, c.if-c-image_at.false) in
    rw number (part_goes_at next own k.stop whole ImageHead k.at image_at hs
    (image_parts k.capsule body k.item ++ items_from k.capsule body (k.item + 1))
    s.kind s.items parts known.2 refl refl (omega (arith, s.stop)) more
    (omega (arith, known.0, s.at))
    (omega (arith, known.0, places.image, places.vendor, places.pad))
    (inr (
      refl,
      record {
        items = s.items;
        parts = parts;
        at = s.at;
        stop = known.0;
        left = known.2;
      },
    )) (λ e. absurd (omega (arith, e))))
