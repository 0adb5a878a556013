use Rattle.std.proofs.Common.{◌≡◌, ◌≤◌, ◌+◌, ◌-◌, drop, min, refl, arith}
use Rattle.fmp_headers.specs.CapsuleHeader.{image_size}
use Rattle.capsule_feed.specs.Cursors.{place_of}
use Rattle.capsule_feed.specs.declared.cursor.Cursor.{Cursor}
use Rattle.capsule_feed.specs.declared.span.SpanKind.TheVariants.{ImageHead}
use Rattle.capsule_feed.proofs.ItemSteps.{image_empty, image_goes, place_le, whole_le}
use Rattle.capsule_feed.proofs.items.begin_image_head.Goals as goal

pub returns-then-size-gt0 : goal.returns-then-size-gt0
returns-then-size-gt0 c = λ own whole h.
    let k = c.args.c in
    let rest = drop k.start whole in
    let there : place_of k.start rest (k.item + 1) ≤ k.start + image_size rest =
    place_le k.start rest (k.item + 1) h.items.fmp.front h.items.bounds
    (omega (arith, h.here, h.items.fmp.items)) in
    let all = whole_le k.start whole h.items.fmp.front in
    let stop : c.saturating_add.result ≡ k.at + min 32 (k.item_end - k.at) =
    omega (
      arith,
      c.saturating_add.ensures,
      c.min.ensures,
      c.saturating_sub-size.ensures,
      h.end,
      there,
      all,
      h.left.small,
      h.left.total,
      c.if-size-gt0.true,
    ) in
    image_goes _ own whole refl h.items h.here h.low refl h.at h.end stop
    (omega (arith, c.if-size-gt0.true, c.saturating_sub-size.ensures)) h.left

pub returns : goal.returns
returns c = λ own whole h.
    let k = c.args.c in
    let head : Cursor = record k {
      kind = ImageHead;
      stop = c.saturating_add.result;
      tested = k.item;
    } in
    let empty : place_of k.start (drop k.start whole) (k.item + 1) ≤ k.at =
    omega (arith, h.end, c.if-size-gt0.false, c.saturating_sub-size.ensures) in
    rw (c.tells.ensures)
    (image_empty head own whole c.saturating_sub.result h.items h.here h.low h.at empty
    c.saturating_sub.ensures h.left)
