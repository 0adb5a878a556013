use Rattle.std.proofs.Common.{◌<◌, ◌+◌, ◌++◌, ℕ, [], drop, refl, sym, arith, subst}
use Rattle.cu_base.specs.Fields.{number_at}
use Rattle.capsule_grammar.specs.Refusals.{body_of, item}
use Rattle.capsule_feed.specs.Structures.{image_parts, items_from}
use Rattle.capsule_feed.specs.Cursors.{AtParts, Goes, image_place, vendor_parts}
use Rattle.capsule_feed.specs.declared.span.SpanKind.TheVariants.{Image}
use Rattle.capsule_feed.proofs.ItemSteps.{part_goes, part_places, past_image}
use Rattle.capsule_feed.proofs.items.begin_image.Goals as goal

pub returns-then-c : goal.returns-then-c
returns-then-c c = λ whole at h.
    let k = c.args.c in
    let own = c.args.own.now in
    let there : AtParts k own (image_place k.start (drop k.start whole) k.item)
    (λ rest. image_parts k.capsule (body_of rest) k.item) whole =
    subst (λ (x : ℕ). AtParts k own x (λ rest. image_parts k.capsule (body_of rest) k.item) whole) at h in
    subst (λ (x : ℕ). Goes c.begin_vendor.result own [] x whole) (sym c.if-c.true)
    (c.begin_vendor.ensures whole (past_image k own whole there))

pub returns : goal.returns
returns c = λ whole at h.
    let k = c.args.c in
    let rest = drop k.start whole in
    let body = body_of rest in
    let p = part_places k.start k.item k.vendor_at k.pad_at k.item_end rest h.parts h.items.bounds in
    let more : k.stop < k.vendor_at = omega (arith, p.image, at, c.if-c.false) in
    part_goes _ c.args.own.now whole Image k.stop k.vendor_at (number_at (item body k.item) 24 4)
    (vendor_parts k.capsule k.item rest ++ items_from k.capsule body (k.item + 1)) refl h.items h.parts
    h.left refl refl more (omega (arith, h.parts.vendor, at)) (omega (arith, p.vendor, p.pad))
    (record { items = h.items; parts = h.parts; at = at; stop = refl; left = h.left }) tt
