use Rattle.std.proofs.Common.{◌≡◌, ◌+◌, ◌*◌, ℕ, [], drop, refl, arith, subst}
use Rattle.fmp_headers.specs.CapsuleHeader.{header_size}
use Rattle.capsule_grammar.specs.Refusals.{body_of, list_end}
use Rattle.capsule_feed.specs.Cursors.{AtLead, Goes}
use Rattle.capsule_feed.specs.declared.cursor.Cursor.{Cursor}
use Rattle.capsule_feed.specs.declared.span.SpanKind.TheVariants.{Offsets}
use Rattle.capsule_feed.proofs.FrontSteps.{all_offsets, no_offsets, offset_goes}
use Rattle.capsule_feed.proofs.ItemSteps.{body_long, whole_le}
use Rattle.capsule_feed.proofs.fronts.begin_offsets.Goals as goal

pub returns-then-c-eq0 : goal.returns-then-c-eq0
returns-then-c-eq0 c = λ whole h.
    let k = c.args.c in
    let rest = drop k.start whole in
    let body = body_of rest in
    let f = h.known in
    let all = whole_le k.start whole f.front in
    let long = body_long rest f.front in
    let here : c.saturating_add-here.result ≡ k.start + header_size rest + 8 =
    omega (
      arith,
      c.saturating_add-here.ensures,
      c.place.ensures,
      f.header,
      f.list,
      long,
      all,
      f.front.within,
      h.left.small,
      h.left.total,
    ) in
    let same : k.start + header_size rest + 8 ≡ k.start + k.header_size + 8 = omega (arith, f.header) in
    let list : Cursor = record k {
      kind = Offsets;
      item = 0;
      at = c.saturating_add-here.result;
      stop = c.saturating_add.result;
      tested = 0;
    } in
    let lead : AtLead list [] whole =
    all_offsets list [] 0 whole f (no_offsets rest) c.if-c-eq0.true h.left in
    let place : k.start + header_size rest + list_end body ≡ k.start + k.header_size + 8 =
    omega (arith, f.header, f.items, c.if-c-eq0.true) in
    subst (λ (x : ℕ). Goes c.begin_lead.result [] [] x whole) place (c.begin_lead.ensures whole lead)

pub returns : goal.returns
returns c = λ whole h.
    let k = c.args.c in
    let rest = drop k.start whole in
    let body = body_of rest in
    let f = h.known in
    let all = whole_le k.start whole f.front in
    let long = body_long rest f.front in
    let here : c.saturating_add-here.result ≡ k.start + header_size rest + 8 =
    omega (
      arith,
      c.saturating_add-here.ensures,
      c.place.ensures,
      f.header,
      f.list,
      long,
      all,
      f.front.within,
      h.left.small,
      h.left.total,
    ) in
    let same : k.start + header_size rest + 8 ≡ k.start + k.header_size + 8 = omega (arith, f.header) in
    let stop : c.saturating_add.result ≡ c.saturating_add-here.result + 8 + 8 * 0 =
    omega (
      arith,
      c.saturating_add.ensures,
      here,
      f.list,
      f.items,
      c.if-c-eq0.false,
      long,
      all,
      f.front.within,
      h.left.small,
      h.left.total,
    ) in
    offset_goes _ [] (k.start + k.header_size + 8) whole refl refl f (no_offsets rest)
    (omega (arith, c.if-c-eq0.false)) here stop (omega (arith, same, here)) (rw here h.left)
