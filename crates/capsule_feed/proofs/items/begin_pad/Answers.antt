use Rattle.std.proofs.Common.{◌≡◌, ◌<◌, ◌+◌, ◌-◌, ℕ, [], drop, refl, sym, ap, ◌∙◌, arith, subst}
use Rattle.capsule_grammar.specs.Refusals.{body_of, image_parts_size, item}
use Rattle.capsule_feed.specs.Structures.{item_size, items_from}
use Rattle.capsule_feed.specs.Cursors.{AtItem, Goes, place_of}
use Rattle.capsule_feed.specs.declared.span.SpanKind.TheVariants.{Pad}
use Rattle.capsule_feed.proofs.ItemSteps.{few, part_goes, part_places, past_pad}
use Rattle.capsule_feed.proofs.items.begin_pad.Goals as goal

pub returns-then-c : goal.returns-then-c
returns-then-c c = λ whole h.
    let k = c.args.c in
    let rest = drop k.start whole in
    let own = c.args.own.now in
    let next : AtItem k own (k.item + 1) whole = past_pad k own whole h in
    let number : c.saturating_add.result ≡ k.item + 1 =
    omega (
      arith,
      c.saturating_add.ensures,
      h.parts.here,
      h.items.fmp.items,
      few k.header_size k.image_size k.drivers k.items rest h.items.fmp,
    ) in
    let place : place_of k.start rest c.saturating_add.result ≡ k.pad_at =
    ap (λ (n : ℕ). place_of k.start rest n) number ∙ sym h.parts.end ∙ sym c.if-c.true in
    subst (λ (x : ℕ). Goes c.begin_item.result own [] x whole) place
    (c.begin_item.ensures whole (rw number next))

pub returns : goal.returns
returns c = λ whole h.
    let k = c.args.c in
    let rest = drop k.start whole in
    let body = body_of rest in
    let p = part_places k.start k.item k.vendor_at k.pad_at k.item_end rest h.parts h.items.bounds in
    let more : k.pad_at < k.item_end = omega (arith, p.pad, c.if-c.false) in
    part_goes _ c.args.own.now whole Pad k.pad_at k.item_end
    (item_size body k.item - image_parts_size (item body k.item))
    (items_from k.capsule body (k.item + 1)) refl h.items h.parts h.left refl refl more
    (omega (arith, p.rest_is)) (omega arith)
    (record { items = h.items; parts = h.parts; at = refl; stop = refl; left = h.left }) tt
