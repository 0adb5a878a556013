-- Behind the first 32 bytes of an image item.
use Rattle.std.proofs.Common.{◌≡◌, ℕ, ◌+◌, ◌-◌, ◌^◌, ◌<◌, ◌≤◌, min, List, [], ◌∷◌, ◌++◌}
use Rattle.std.proofs.Common.{length, drop, not, Bool, true, false, cond, ltb, Some, None, sym}
use Rattle.std.proofs.Common.{ap}
use Rattle.std.proofs.Common.{◌∙◌, inl, inr, arith, subst}
use Rattle.std.proofs.lemmas.Bool.{ltb-false}
use Rattle.cu_base.specs.Refusals.{Row, first_refusal}
use Rattle.cu_base.specs.Fields.{field, number_at}
use Rattle.fmp_headers.specs.CapsuleHeader.{header_size, image_size}
use Rattle.fmp_headers.specs.ImageHeader.{image_version, image_header_size, is_image_version}
use Rattle.capsule_grammar.specs.declared.refusal.Why.TheVariants as whys
use Rattle.capsule_grammar.specs.declared.refusal.Refusal.{Refusal}
use Rattle.capsule_grammar.specs.Accepted.{IsImageItem}
use Rattle.capsule_grammar.specs.Fronts.{Begins}
use Rattle.capsule_grammar.specs.Refusals.{body_of, bound, item, item_count, driver_count}
use Rattle.capsule_grammar.specs.Refusals.{image_rows}
use Rattle.capsule_grammar.specs.Refusals.{image_parts_size}
use Rattle.capsule_grammar.proofs.FrontLemmas.{number_same}
use Rattle.capsule_grammar.proofs.Read.{is_image_item}
use Rattle.capsule_feed.specs.Structures.{Structure, structure, items_from, image_parts}
use Rattle.capsule_feed.specs.Structures.{item_size}
use Rattle.capsule_feed.specs.Told.{Told, image_told, images_told, image_reach, reading}
use Rattle.capsule_feed.specs.Cursors.{Goes, HasHead, ImageIs, InImageStart, IsInHand, IsLeft}
use Rattle.capsule_feed.specs.Cursors.{image_place, images_left, place_of}
use Rattle.capsule_feed.specs.declared.cursor.Cursor.{Cursor}
use Rattle.capsule_feed.specs.declared.cursor.Fate.TheVariants.{Tells}
use Rattle.capsule_feed.specs.declared.span.SpanKind.{SpanKind}
use Rattle.capsule_feed.specs.declared.span.SpanKind.TheVariants.{ImageHead}
use Rattle.capsule_feed.proofs.Reaches.{header_least, image_reach_least, item_length}
use Rattle.capsule_feed.proofs.Goings.{left_hand, left_tested}
use Rattle.capsule_feed.proofs.Steps.{four_places, goes_told}
use Rattle.capsule_feed.proofs.HeadLemmas.{head_begins, item_is}
use Rattle.capsule_feed.proofs.ItemSteps.{image_next, images_next, place_le}
use Rattle.capsule_feed.proofs.ItemSteps.{place_next, whole_le}

reach_most : (b : Bool) (n h : ℕ) → 32 ≤ h → min n (cond b h 32) ≤ h
reach_most true n h le = omega arith
reach_most false n h le = omega (arith, le)

reach_far : (b : Bool) (n h : ℕ) → 32 ≤ h → 32 ≤ n → 24 ≤ min n (cond b h 32)
reach_far true n h le some = omega (arith, le, some)
reach_far false n h le some = omega (arith, some)

-- what was gathered is the front of the item
pub start_begins : (c : Cursor) (own head whole : List ℕ) → InImageStart c own whole
    → HasHead c.at c.stop head whole
    → Begins head (c.item_end - c.at) (item (body_of (drop c.start whole)) c.item)
start_begins c own head whole s h =
    let rest = drop c.start whole in
    let body = body_of rest in
    let k = c.item in
    let inside : k < item_count body = omega (arith, s.here, s.items.fmp.items) in
    let next = place_next c.start rest k s.items.bounds inside in
    let size : c.item_end - c.at ≡ item_size body k = omega (arith, s.end, s.at, next) in
    let there : place_of c.start rest (k + 1) ≤ c.start + image_size rest =
    place_le c.start rest (k + 1) s.items.fmp.front s.items.bounds (omega (arith, inside)) in
    let all = whole_le c.start whole s.items.fmp.front in
    let is : item body k ≡ field whole c.at (c.item_end - c.at) =
    item_is c.start whole k s.items.fmp.front s.items.bounds inside
    ∙ ap (λ (a : ℕ). field whole a (item_size body k)) (sym s.at)
    ∙ ap (λ (n : ℕ). field whole c.at n) (sym size) in
    subst (λ (l : List ℕ). Begins head (c.item_end - c.at) l) (sym is)
    (head_begins whole head c.at c.stop (c.item_end - c.at) h (omega (arith, s.stop))
    (omega (arith, size, next, s.at, there, all)))

-- an image item that is refused
pub image_refused : (c : Cursor) (own head whole : List ℕ) (r : Refusal) (reach : ℕ)
    → c.kind ≡ ImageHead → InImageStart c own whole → HasHead c.at c.stop head whole
    → first_refusal (image_rows (item (body_of (drop c.start whole)) c.item) (c.at - c.start))
    ≡ Some (r.at, r.why)
    → reach ≡ (c.at - c.start) + image_reach (item (body_of (drop c.start whole)) c.item)
    → Goes (record c {
      fate = Tells (record { at = min (c.start + r.at) (2 ^ 32 - 1); why = r.why });
      stop = min (c.start + reach) (2 ^ 32 - 1);
    }) own [] c.stop whole
image_refused c own head whole r reach kind s h refused e =
    let rest = drop c.start whole in
    let body = body_of rest in
    let k = c.item in
    let hd = header_size rest in
    let image = item body k in
    let are = s.items.bounds in
    let inside : k < item_count body = omega (arith, s.here, s.items.fmp.items) in
    let low : driver_count body ≤ k = omega (arith, s.low, s.items.fmp.drivers) in
    let here : c.at - c.start ≡ hd + bound body k = omega (arith, s.at) in
    let refused2 : first_refusal (image_rows image (hd + bound body k)) ≡ Some (r.at, r.why) =
    subst (λ (n : ℕ). first_refusal (image_rows image n) ≡ Some (r.at, r.why)) here refused in
    let e2 : hd + bound body k + image_reach image ≡ reach = omega (arith, e, here) in
    let rows : IsLeft c.fate c.total c.capsule c.start c.at (items_from c.capsule body k)
    (image_told body hd k ++ images_told body hd (k + 1)) whole =
    subst (λ (l : List (Row Told)). IsLeft c.fate c.total c.capsule c.start c.at
    (items_from c.capsule body k) l whole) (images_next body hd k inside) s.left in
    let rows2 : IsLeft c.fate c.total c.capsule c.start c.at (items_from c.capsule body k)
    (reading reach (image_rows image (hd + bound body k)) ++ images_told body hd (k + 1)) whole =
    subst (λ (n : ℕ). IsLeft c.fate c.total c.capsule c.start c.at (items_from c.capsule body k)
    (reading n (image_rows image (hd + bound body k)) ++ images_told body hd (k + 1)) whole) e2 rows in
    let hs = image_header_size (image_version image) in
    let tail = image_parts c.capsule body k ++ items_from c.capsule body (k + 1) in
    let structures : IsLeft c.fate c.total c.capsule c.start c.at
    (structure ImageHead c.capsule k hs ∷ tail)
    (reading reach (image_rows image (hd + bound body k)) ++ images_told body hd (k + 1)) whole =
    subst (λ (l : List Structure). IsLeft c.fate c.total c.capsule c.start c.at l
    (reading reach (image_rows image (hd + bound body k)) ++ images_told body hd (k + 1)) whole)
    (image_next c.capsule body k inside low) rows2 in
    let long : length image ≡ item_size body k = item_length body k are inside in
    let next = place_next c.start rest k are inside in
    let there : place_of c.start rest (k + 1) ≤ c.start + image_size rest =
    place_le c.start rest (k + 1) s.items.fmp.front are (omega (arith, inside)) in
    let all = whole_le c.start whole s.items.fmp.front in
    let within : image_reach image ≤ item_size body k = omega (arith, long) in
    let short : image_reach image ≤ hs = reach_most (is_image_version (image_version image)) (length image)
    hs (header_least (image_version image)) in
    let place : r.at ≤ reach =
    elim (four_places (ltb (length image) 32) (not (is_image_version (image_version image)))
    (ltb (length image) hs) (ltb (length image) (image_parts_size image))
    (hd + bound body k) (hd + bound body k) (hd + bound body k) (hd + bound body k + 24)
    whys.Short whys.BadImageVersion whys.Short whys.ImageOutside (r.at, r.why) refused2) [
      | inl first ↦ omega (arith, first, e2)
      | inr later ↦
          let some : 32 ≤ length image = ltb-false _ _ later.0 in
          let far : 24 ≤ image_reach image =
          reach_far (is_image_version (image_version image)) (length image)
          hs (header_least (image_version image)) some in
          elim (later.1) [
            | inl a ↦ omega (arith, a, e2)
            | inr b ↦ elim b [
              | inl d ↦ omega (arith, d, e2)
              | inr f ↦ omega (arith, f, e2, far)
            ]
          ]
    ] in
    goes_told c own c.stop whole r reach (items_from c.capsule body k)
    (image_rows image (hd + bound body k)) (images_told body hd (k + 1)) rows2 refused2
    (subst (λ (x : SpanKind). IsInHand x c.capsule k c.at (c.start + reach) whole) (sym kind)
    (left_hand c.fate c.total c.capsule c.start c.at hs (c.start + reach) ImageHead c.capsule k tail
    (reading reach (image_rows image (hd + bound body k)) ++ images_told body hd (k + 1)) whole
    structures (omega (arith, e2, short, s.at))))
    (omega (arith, s.stop)) (omega (arith, e2, s.at, s.stop, s.end, next, long, image_reach_least image))
    (omega (arith, e2, within, next, there, all, s.at)) place

-- an image item that is not refused: its parts are known
pub image_known : (c : Cursor) (own head whole : List ℕ) (v p image_at : ℕ)
    → InImageStart c own whole → HasHead c.at c.stop head whole → 32 ≤ length head
    → first_refusal (image_rows (item (body_of (drop c.start whole)) c.item) (c.at - c.start)) ≡ None
    → image_at ≡ min (c.at + image_header_size (number_at head 0 4)) (2 ^ 32 - 1)
    → v ≡ min (image_at + number_at head 24 4) (2 ^ 32 - 1)
    → p ≡ min (v + number_at head 28 4) (2 ^ 32 - 1)
    → (image_at ≡ image_place c.start (drop c.start whole) c.item)
    × (ImageIs c.start c.item v p c.item_end (drop c.start whole))
    × IsLeft c.fate c.total c.capsule c.start c.at
    (structure ImageHead c.capsule c.item
    (image_header_size (image_version (item (body_of (drop c.start whole)) c.item)))
    ∷ (image_parts c.capsule (body_of (drop c.start whole)) c.item
    ++ items_from c.capsule (body_of (drop c.start whole)) (c.item + 1)))
    (images_left (c.item + 1) (drop c.start whole)) whole
image_known c own head whole v p image_at s h long none ei ev ep =
    let rest = drop c.start whole in
    let body = body_of rest in
    let k = c.item in
    let hd = header_size rest in
    let image = item body k in
    let are = s.items.bounds in
    let inside : k < item_count body = omega (arith, s.here, s.items.fmp.items) in
    let low : driver_count body ≤ k = omega (arith, s.low, s.items.fmp.drivers) in
    let here : c.at - c.start ≡ hd + bound body k = omega (arith, s.at) in
    let none2 : first_refusal (image_rows image (hd + bound body k)) ≡ None =
    subst (λ (n : ℕ). first_refusal (image_rows image n) ≡ None) here none in
    let good : IsImageItem image = is_image_item image (hd + bound body k) none2 in
    let parts : image_parts_size image ≤ length image = good.parts in
    let b : Begins head (c.item_end - c.at) image = start_begins c own head whole s h in
    let n0 : number_at image 0 4 ≡ number_at head 0 4 = number_same 0 4 b (omega (arith, long)) in
    let n1 : number_at image 24 4 ≡ number_at head 24 4 = number_same 24 4 b (omega (arith, long)) in
    let n2 : number_at image 28 4 ≡ number_at head 28 4 = number_same 28 4 b (omega (arith, long)) in
    let size : length image ≡ item_size body k = item_length body k are inside in
    let next = place_next c.start rest k are inside in
    let there : place_of c.start rest (k + 1) ≤ c.start + image_size rest =
    place_le c.start rest (k + 1) s.items.fmp.front are (omega (arith, inside)) in
    let all = whole_le c.start whole s.items.fmp.front in
    let hs : image_header_size (image_version image) ≡ image_header_size (number_at head 0 4) =
    ap image_header_size n0 in
    let sum : image_place c.start rest k + number_at image 24 4 + number_at image 28 4
    ≤ place_of c.start rest (k + 1) = omega (arith, parts, size, next) in
    let limit : place_of c.start rest (k + 1) ≤ 2 ^ 32 - 1 =
    omega (arith, there, all, s.left.small, s.left.total) in
    let at1 : image_at ≡ image_place c.start rest k = omega (arith, ei, hs, s.at, sum, limit) in
    let at2 : v ≡ image_place c.start rest k + number_at image 24 4 =
    omega (arith, ev, at1, n1, sum, limit) in
    let at3 : p ≡ v + number_at image 28 4 = omega (arith, ep, at2, n2, sum, limit) in
    let rows : IsLeft c.fate c.total c.capsule c.start c.at (items_from c.capsule body k)
    (image_told body hd k ++ images_told body hd (k + 1)) whole =
    subst (λ (l : List (Row Told)). IsLeft c.fate c.total c.capsule c.start c.at
    (items_from c.capsule body k) l whole) (images_next body hd k inside) s.left in
    let tested : IsLeft c.fate c.total c.capsule c.start c.at (items_from c.capsule body k)
    (images_told body hd (k + 1)) whole =
    left_tested c.fate c.total c.capsule c.start c.at (hd + bound body k + image_reach image)
    (items_from c.capsule body k) (image_rows image (hd + bound body k))
    (images_told body hd (k + 1)) whole rows none2 in (
      at1,
      record {
        low = low;
        here = inside;
        vendor = at2;
        pad = at3;
        end = s.end;
        parts = omega (arith, parts, size);
      },
      subst (λ (l : List Structure). IsLeft c.fate c.total c.capsule c.start c.at l
          (images_told body hd (k + 1)) whole) (image_next c.capsule body k inside low) tested,
    )
