use Rattle.std.proofs.Common.{◌≡◌, ◌+◌, ℕ, [], List, drop, sym, ap, ◌∙◌, arith, subst}
use Rattle.capsule_feed.specs.Structures.{image_parts}
use Rattle.capsule_grammar.specs.Refusals.{body_of}
use Rattle.capsule_feed.specs.Cursors.{AtItem, Goes, IsStopped, image_place, own_behind}
use Rattle.capsule_feed.specs.Cursors.{pad_parts}
use Rattle.capsule_feed.specs.Cursors.{place_of, vendor_parts}
use Rattle.capsule_feed.specs.declared.span.SpanKind.{SpanKind}
use Rattle.capsule_feed.specs.declared.span.SpanKind.TheVariants.{Ext}
use Rattle.capsule_feed.proofs.ItemSteps.{few, past_image, past_pad, past_vendor}
use Rattle.capsule_feed.proofs.TurnSteps.{driver_passed, ext_passed, header_passed, is_start}
use Rattle.capsule_feed.proofs.TurnSteps.{is_tested}
use Rattle.capsule_feed.proofs.TurnSteps.{lead_passed, other_passed, part_at}
use Rattle.capsule_feed.proofs.turning.turned.Goals as goal

pub begin_body-requires : goal.begin_body-requires
begin_body-requires c =
    let k = c.args.c in
    let whole = c.requires.some.whole in
    let s : IsStopped Ext k c.args.own.now c.args.head.now whole =
    subst (λ (x : SpanKind). IsStopped x k c.args.own.now c.args.head.now whole) c.in-Ext.is
    c.requires.some.holds in
    record { some = record { whole = whole; holds = ext_passed k whole s } }

pub returns-in-Header : goal.returns-in-Header
returns-in-Header c =
    let k = c.args.c in
    let own = c.args.own.now in
    let head = c.args.head.now in
    subst (λ (x : SpanKind). (whole : List ℕ) → IsStopped x k own head whole
    → Goes c.after_header.result (own_behind x own) [] k.stop whole) (sym c.in-Header.is) (λ whole s.
    c.after_header.ensures whole s.0 s.1)

pub returns-in-Ext : goal.returns-in-Ext
returns-in-Ext c =
    let k = c.args.c in
    let own = c.args.own.now in
    let head = c.args.head.now in
    subst (λ (x : SpanKind). (whole : List ℕ) → IsStopped x k own head whole
    → Goes c.begin_body.result (own_behind x own) [] k.stop whole) (sym c.in-Ext.is) (λ whole s.
    subst (λ (x : ℕ). Goes c.begin_body.result [] [] x whole)
    (omega (arith, s.known.header, s.stop)) (c.begin_body.ensures whole (ext_passed k whole s)))

pub returns-in-Other : goal.returns-in-Other
returns-in-Other c =
    let k = c.args.c in
    let own = c.args.own.now in
    let head = c.args.head.now in
    subst (λ (x : SpanKind). (whole : List ℕ) → IsStopped x k own head whole
    → Goes c.end_capsule.result (own_behind x own) [] k.stop whole) (sym c.in-Other.is) (λ whole s.
    subst (λ (x : ℕ). Goes c.end_capsule.result [] [] x whole)
    (omega (arith, s.image, s.stop)) (c.end_capsule.ensures [] whole (other_passed k whole s)))

pub returns-in-Lead : goal.returns-in-Lead
returns-in-Lead c =
    let k = c.args.c in
    let own = c.args.own.now in
    let head = c.args.head.now in
    subst (λ (x : SpanKind). (whole : List ℕ) → IsStopped x k own head whole
    → Goes c.begin_item.result (own_behind x own) [] k.stop whole) (sym c.in-Lead.is) (λ whole s.
    subst (λ (x : ℕ). Goes c.begin_item.result own [] x whole)
    (sym s.stop) (c.begin_item.ensures whole (lead_passed k own whole s)))

pub returns-in-Driver : goal.returns-in-Driver
returns-in-Driver c =
    let k = c.args.c in
    let own = c.args.own.now in
    let head = c.args.head.now in
    subst (λ (x : SpanKind). (whole : List ℕ) → IsStopped x k own head whole
    → Goes c.begin_item-in-Driver.result (own_behind x own) [] k.stop whole) (sym c.in-Driver.is) (λ whole s.
    let rest = drop k.start whole in
    let number : c.saturating_add.result ≡ k.item + 1 =
    omega (
      arith,
      c.saturating_add.ensures,
      s.here,
      few k.header_size k.image_size k.drivers k.items rest s.items.fmp,
    ) in
    let next : AtItem k own c.saturating_add.result whole = rw number (driver_passed k own whole s) in
    let place : place_of k.start rest c.saturating_add.result ≡ k.stop =
    ap (λ (n : ℕ). place_of k.start rest n) number ∙ sym s.stop in
    subst (λ (x : ℕ). Goes c.begin_item-in-Driver.result own [] x whole)
    (place) (c.begin_item-in-Driver.ensures whole next))

pub returns-then-c : goal.returns-then-c
returns-then-c c =
    let k = c.args.c in
    let own = c.args.own.now in
    let head = c.args.head.now in
    subst (λ (x : SpanKind). (whole : List ℕ) → IsStopped x k own head whole
    → Goes c.after_image_start.result (own_behind x own) [] k.stop whole) (sym c.in-ImageHead.is) (λ whole s.
    c.after_image_start.ensures whole (is_start k own whole s.0 c.if-c.true) (s.1 c.if-c.true))

pub returns-else-c : goal.returns-else-c
returns-else-c c =
    let k = c.args.c in
    let own = c.args.own.now in
    let head = c.args.head.now in
    subst (λ (x : SpanKind). (whole : List ℕ) → IsStopped x k own head whole
    → Goes c.begin_image.result (own_behind x own) [] k.stop whole) (sym c.in-ImageHead.is) (λ whole s.
    let h = is_tested k own whole s.0 c.if-c.false in
    c.begin_image.ensures whole h.stop (header_passed k own whole h))

pub returns-in-Image : goal.returns-in-Image
returns-in-Image c =
    let k = c.args.c in
    let own = c.args.own.now in
    let head = c.args.head.now in
    subst (λ (x : SpanKind). (whole : List ℕ) → IsStopped x k own head whole
    → Goes c.begin_vendor.result (own_behind x own) [] k.stop whole) (sym c.in-Image.is) (λ whole s.
    let at = part_at k own (image_place k.start (drop k.start whole) k.item) k.vendor_at
    (λ rest. image_parts k.capsule (body_of rest) k.item) whole s in
    subst (λ (x : ℕ). Goes c.begin_vendor.result own [] x whole)
    (sym s.stop) (c.begin_vendor.ensures whole (past_image k own whole at)))

pub returns-in-Vendor : goal.returns-in-Vendor
returns-in-Vendor c =
    let k = c.args.c in
    let own = c.args.own.now in
    let head = c.args.head.now in
    subst (λ (x : SpanKind). (whole : List ℕ) → IsStopped x k own head whole
    → Goes c.begin_pad.result (own_behind x own) [] k.stop whole) (sym c.in-Vendor.is) (λ whole s.
    let at = part_at k own k.vendor_at k.pad_at (vendor_parts k.capsule k.item) whole s in
    subst (λ (x : ℕ). Goes c.begin_pad.result own [] x whole)
    (sym s.stop) (c.begin_pad.ensures whole (past_vendor k own whole at)))

pub returns-in-Pad : goal.returns-in-Pad
returns-in-Pad c =
    let k = c.args.c in
    let own = c.args.own.now in
    let head = c.args.head.now in
    subst (λ (x : SpanKind). (whole : List ℕ) → IsStopped x k own head whole
    → Goes c.begin_item-in-Pad.result (own_behind x own) [] k.stop whole) (sym c.in-Pad.is) (λ whole s.
    let rest = drop k.start whole in
    let at = part_at k own k.pad_at k.item_end (pad_parts k.capsule k.item) whole s in
    let number : c.saturating_add-in-Pad.result ≡ k.item + 1 =
    omega (
      arith,
      c.saturating_add-in-Pad.ensures,
      s.parts.here,
      s.items.fmp.items,
      few k.header_size k.image_size k.drivers k.items rest s.items.fmp,
    ) in
    let next : AtItem k own c.saturating_add-in-Pad.result whole = rw number (past_pad k own whole at) in
    let place : place_of k.start rest c.saturating_add-in-Pad.result ≡ k.stop =
    ap (λ (n : ℕ). place_of k.start rest n) number ∙ sym s.parts.end ∙ sym s.stop in
    subst (λ (x : ℕ). Goes c.begin_item-in-Pad.result own [] x whole)
    (place) (c.begin_item-in-Pad.ensures whole next))
