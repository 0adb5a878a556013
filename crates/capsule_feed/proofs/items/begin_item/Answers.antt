use Rattle.std.proofs.Common.{◌≡◌, ◌<◌, ◌≤◌, ◌+◌, ℕ, [], drop, max, refl, sym, ap, ◌∙◌, arith}
use Rattle.std.proofs.Common.{subst}
use Rattle.capsule_grammar.specs.Refusals.{body_of, driver_count}
use Rattle.capsule_feed.specs.Structures.{items_from}
use Rattle.capsule_feed.specs.Cursors.{AtItem, AtEnd, Goes, IsLeft, images_left, place_of}
use Rattle.capsule_feed.proofs.ItemSteps.{driver_goes, few, items_end, last_driver, past_driver}
use Rattle.capsule_feed.proofs.ItemSteps.{place_end}
use Rattle.capsule_feed.proofs.items.begin_item.Goals as goal

pub returns-then-k-c : goal.returns-then-k-c
returns-then-k-c c = λ whole h.
    let k = c.args.c in
    let rest = drop k.start whole in
    let end : AtEnd k whole = items_end k c.args.own.now c.args.k whole h c.if-k-c.true in
    let place : k.start + k.image_size ≡ place_of k.start rest c.args.k =
    omega (
      arith,
      h.items.fmp.image,
      place_end k.start rest c.args.k h.items.fmp.front
          (omega (arith, c.if-k-c.true, h.items.fmp.items)),
    ) in
    subst (λ (x : ℕ). Goes c.end_capsule.result c.args.own.now [] x whole) place
    (c.end_capsule.ensures c.args.own.now whole end)

pub returns-then-k-c-2 : goal.returns-then-k-c-2
returns-then-k-c-2 c = λ whole h.
    let k = c.args.c in
    let j = c.args.k in
    let own = c.args.own.now in
    let rest = drop k.start whole in
    let body = body_of rest in
    let here : j < k.items = c.if-k-c.false in
    let number : c.saturating_add.result ≡ j + 1 =
    omega (
      arith,
      c.saturating_add.ensures,
      here,
      few k.header_size k.image_size k.drivers k.items rest h.items.fmp,
    ) in
    let at : c.bound_place.result ≡ place_of k.start rest j =
    c.bound_place.ensures whole h.items (omega (arith, h.left.small, h.left.total))
    (omega (arith, here)) in
    let end : c.bound_place-end.result ≡ place_of k.start rest (j + 1) =
    c.bound_place-end.ensures whole h.items (omega (arith, h.left.small, h.left.total))
    (omega (arith, here, number))
    ∙ ap (λ (n : ℕ). place_of k.start rest n) number in
    let same : max (driver_count body) j ≡ j =
    omega (arith, c.if-k-c-2.true, h.items.fmp.drivers) in
    let left : IsLeft k.fate k.total k.capsule k.start c.bound_place.result
    (items_from k.capsule body j) (images_left j rest) whole =
    subst (λ (a : ℕ). IsLeft k.fate k.total k.capsule k.start a
    (items_from k.capsule body j) (images_left j rest) whole) (sym at)
    (subst (λ (m : ℕ). IsLeft k.fate k.total k.capsule k.start (place_of k.start rest j)
    (items_from k.capsule body j) (images_left m rest) whole) same h.left) in
    subst (λ (x : ℕ). Goes c.begin_image_head.result own [] x whole) at
    (c.begin_image_head.ensures own whole (record {
      items = h.items;
      here = here;
      low = c.if-k-c-2.true;
      at = at;
      end = end;
      left = left;
    }))

pub returns-then-item-end : goal.returns-then-item-end
returns-then-item-end c = λ whole h.
    let k = c.args.c in
    let j = c.args.k in
    let own = c.args.own.now in
    let rest = drop k.start whole in
    let here : j < k.items = c.if-k-c.false in
    let number : c.saturating_add.result ≡ j + 1 =
    omega (
      arith,
      c.saturating_add.ensures,
      here,
      few k.header_size k.image_size k.drivers k.items rest h.items.fmp,
    ) in
    let at : c.bound_place.result ≡ place_of k.start rest j =
    c.bound_place.ensures whole h.items (omega (arith, h.left.small, h.left.total))
    (omega (arith, here)) in
    let end : c.bound_place-end.result ≡ place_of k.start rest (j + 1) =
    c.bound_place-end.ensures whole h.items (omega (arith, h.left.small, h.left.total))
    (omega (arith, here, number))
    ∙ ap (λ (n : ℕ). place_of k.start rest n) number in
    let empty : place_of k.start rest j ≡ place_of k.start rest (j + 1) =
    sym at ∙ c.if-item-end.true ∙ end in
    let last : k.items ≤ j + 1 = last_driver k own j whole h here empty in
    let next : AtItem k own (j + 1) whole = past_driver k own j whole h c.if-k-c-2.false in
    let behind : AtEnd k whole = items_end k own (j + 1) whole next last in
    let place : k.start + k.image_size ≡ place_of k.start rest j =
    omega (
      arith,
      h.items.fmp.image,
      empty,
      place_end k.start rest (j + 1) h.items.fmp.front
          (omega (arith, last, h.items.fmp.items)),
    ) in
    subst (λ (x : ℕ). Goes c.end_capsule-then-item-end.result own [] x whole) place
    (c.end_capsule-then-item-end.ensures own whole behind)

pub returns : goal.returns
returns c = λ whole h.
    let k = c.args.c in
    let j = c.args.k in
    let own = c.args.own.now in
    let rest = drop k.start whole in
    let here : j < k.items = c.if-k-c.false in
    let number : c.saturating_add.result ≡ j + 1 =
    omega (
      arith,
      c.saturating_add.ensures,
      here,
      few k.header_size k.image_size k.drivers k.items rest h.items.fmp,
    ) in
    let at : c.bound_place.result ≡ place_of k.start rest j =
    c.bound_place.ensures whole h.items (omega (arith, h.left.small, h.left.total))
    (omega (arith, here)) in
    let end : c.bound_place-end.result ≡ place_of k.start rest (j + 1) =
    c.bound_place-end.ensures whole h.items (omega (arith, h.left.small, h.left.total))
    (omega (arith, here, number))
    ∙ ap (λ (n : ℕ). place_of k.start rest n) number in
    let rise : place_of k.start rest j ≤ place_of k.start rest (j + 1) =
    omega (arith, h.items.bounds.rising j (omega (arith, here, h.items.fmp.items))) in
    driver_goes _ own whole refl h.items c.if-k-c-2.false at end
    (omega (arith, at, end, rise, c.if-item-end.false)) h.left
