use Rattle.std.proofs.Common.{◌<◌, ◌+◌, ◌++◌, ℕ, [], drop, refl, sym, arith, subst}
use Rattle.cu_base.specs.Fields.{number_at}
use Rattle.capsule_grammar.specs.Refusals.{body_of, item}
use Rattle.capsule_feed.specs.Structures.{items_from}
use Rattle.capsule_feed.specs.Cursors.{Goes, pad_parts}
use Rattle.capsule_feed.specs.declared.span.SpanKind.TheVariants.{Vendor}
use Rattle.capsule_feed.proofs.ItemSteps.{part_goes, part_places, past_vendor}
use Rattle.capsule_feed.proofs.items.begin_vendor.Goals as goal

pub returns-then-c : goal.returns-then-c
returns-then-c c = λ whole h.
    let k = c.args.c in
    let own = c.args.own.now in
    subst (λ (x : ℕ). Goes c.begin_pad.result own [] x whole) (sym c.if-c.true)
    (c.begin_pad.ensures whole (past_vendor k own whole h))

pub returns : goal.returns
returns c = λ whole h.
    let k = c.args.c in
    let rest = drop k.start whole in
    let body = body_of rest in
    let p = part_places k.start k.item k.vendor_at k.pad_at k.item_end rest h.parts h.items.bounds in
    let more : k.vendor_at < k.pad_at = omega (arith, p.vendor, c.if-c.false) in
    part_goes _ c.args.own.now whole Vendor k.vendor_at k.pad_at (number_at (item body k.item) 28 4)
    (pad_parts k.capsule k.item rest ++ items_from k.capsule body (k.item + 1)) refl h.items h.parts
    h.left refl refl more (omega (arith, h.parts.pad)) (omega (arith, p.pad))
    (record { items = h.items; parts = h.parts; at = refl; stop = refl; left = h.left }) tt
