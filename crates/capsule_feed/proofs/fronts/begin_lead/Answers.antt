use Rattle.std.proofs.Common.{◌≡◌, ◌+◌, ℕ, [], drop, refl, sym, ◌∙◌, arith, subst}
use Rattle.fmp_headers.specs.CapsuleHeader.{header_size}
use Rattle.capsule_grammar.specs.Refusals.{body_of, list_end}
use Rattle.capsule_feed.specs.Cursors.{AtItem, Goes, place_of}
use Rattle.capsule_feed.specs.declared.cursor.Cursor.{Cursor}
use Rattle.capsule_feed.specs.declared.span.SpanKind.TheVariants.{Lead}
use Rattle.capsule_feed.proofs.FrontSteps.{lead_goes, past_lead}
use Rattle.capsule_feed.proofs.ItemSteps.{body_long, whole_le}
use Rattle.capsule_feed.proofs.fronts.begin_lead.Goals as goal

pub returns-then-lead-here : goal.returns-then-lead-here
returns-then-lead-here c = λ whole h.
    let k = c.args.c in
    let own = c.args.own.now in
    let rest = drop k.start whole in
    let body = body_of rest in
    let f = h.items.fmp in
    let all = whole_le k.start whole f.front in
    let long = body_long rest f.front in
    let here : c.saturating_add-here.result ≡ k.start + header_size rest + list_end body =
    omega (
      arith,
      c.saturating_add-here.ensures,
      c.place.ensures,
      c.list_end.ensures,
      f.header,
      f.items,
      f.list,
      long,
      all,
      f.front.within,
      h.left.small,
      h.left.total,
    ) in
    let first : c.bound_place.result ≡ place_of k.start rest 0 =
    c.bound_place.ensures whole h.items (omega (arith, h.left.small, h.left.total)) (omega arith) in
    let place : place_of k.start rest 0 ≡ k.start + header_size rest + list_end body =
    sym first ∙ c.if-lead-here.true ∙ here in
    let lead : Cursor = record k {
      kind = Lead;
      item = 0;
      at = c.saturating_add-here.result;
      stop = c.bound_place.result;
      tested = k.drivers;
    } in
    let next : AtItem lead own 0 whole =
    past_lead lead own whole (record { items = h.items; left = h.left }) in
    subst (λ (x : ℕ). Goes c.begin_item.result own [] x whole) place
    (c.begin_item.ensures whole next)

pub returns : goal.returns
returns c = λ whole h.
    let k = c.args.c in
    let own = c.args.own.now in
    let rest = drop k.start whole in
    let body = body_of rest in
    let f = h.items.fmp in
    let all = whole_le k.start whole f.front in
    let long = body_long rest f.front in
    let here : c.saturating_add-here.result ≡ k.start + header_size rest + list_end body =
    omega (
      arith,
      c.saturating_add-here.ensures,
      c.place.ensures,
      c.list_end.ensures,
      f.header,
      f.items,
      f.list,
      long,
      all,
      f.front.within,
      h.left.small,
      h.left.total,
    ) in
    let first : c.bound_place.result ≡ place_of k.start rest 0 =
    c.bound_place.ensures whole h.items (omega (arith, h.left.small, h.left.total)) (omega arith) in
    lead_goes _ own whole refl refl h.items here first (λ e. c.if-lead-here.false (sym e)) h.left
