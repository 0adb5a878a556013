-- From item to item, and through the parts of an image item.
use Rattle.std.proofs.Common.{◌≡◌, ℕ, suc, ◌+◌, ◌-◌, ◌^◌, ◌<◌, ◌≤◌, min, max, List, [], ◌∷◌}
use Rattle.std.proofs.Common.{◌++◌}
use Rattle.std.proofs.Common.{length, drop, Bool, true, cond, ltb, Option, Some, refl, ap}
use Rattle.std.proofs.Common.{◌∙◌, inl, inr, arith, subst}
use Rattle.std.proofs.lemmas.List.{length-drop}
use Rattle.std.proofs.lemmas.Bool.{cond-true, cond-false, cases_lt, lt-ltb, le-ltb}
use Rattle.cu_base.specs.Refusals.{Row, first_refusal}
use Rattle.cu_base.specs.Fields.{number_at}
use Rattle.cu_base.proofs.Fields.{length-field}
use Rattle.fmp_headers.specs.CapsuleHeader.{header_size, image_size}
use Rattle.fmp_headers.specs.ImageHeader.{image_version, image_header_size}
use Rattle.capsule_grammar.specs.declared.refusal.Why.TheVariants.{Short}
use Rattle.capsule_grammar.specs.Accepted.{AreBounds, IsFront}
use Rattle.capsule_grammar.specs.Refusals.{body_of, bound, item, item_count, driver_count}
use Rattle.capsule_grammar.specs.Refusals.{image_rows}
use Rattle.capsule_grammar.specs.Refusals.{image_parts_size}
use Rattle.capsule_grammar.proofs.Offsets.{bound_ends}
use Rattle.capsule_grammar.proofs.Read.{bounds_rise}
use Rattle.capsule_feed.specs.Structures.{Structure, structure, items_from, item_structures}
use Rattle.capsule_feed.specs.Structures.{image_parts}
use Rattle.capsule_feed.specs.Structures.{item_size}
use Rattle.capsule_feed.specs.Told.{Told, told_of, image_told, images_told, image_reach}
use Rattle.capsule_feed.specs.Told.{reading}
use Rattle.capsule_feed.specs.Cursors.{AtEnd, AtItem, AtParts, FmpIs, Goes, ImageIs}
use Rattle.capsule_feed.specs.Cursors.{InStructure, IsHead, IsLeft, ItemsAre}
use Rattle.capsule_feed.specs.Cursors.{image_place, images_left, pad_parts, place_of}
use Rattle.capsule_feed.specs.Cursors.{vendor_parts}
use Rattle.capsule_feed.specs.declared.cursor.Cursor.{Cursor}
use Rattle.capsule_feed.specs.declared.cursor.Fate.TheVariants.{Tells}
use Rattle.capsule_feed.specs.declared.span.SpanKind.{SpanKind}
use Rattle.capsule_feed.specs.declared.span.SpanKind.TheVariants.{Driver, ImageHead, Image}
use Rattle.capsule_feed.specs.declared.span.SpanKind.TheVariants.{Vendor, Pad}
use Rattle.capsule_feed.proofs.Reaches.{header_least, images_behind, images_low, item_length}
use Rattle.capsule_feed.proofs.Goings.{left_later, left_passed, no_hand}
use Rattle.capsule_feed.proofs.Steps.{goes_on, goes_told, no_head}

-- ---- places

pub body_long : (rest : List ℕ) → IsFront rest
    → length (body_of rest) ≡ image_size rest - header_size rest
body_long rest front =
    length-field rest (header_size rest) (image_size rest - header_size rest)
    (omega (arith, front.within, front.there))

pub place_le : (start : ℕ) (rest : List ℕ) (k : ℕ) → IsFront rest
    → AreBounds (body_of rest) (length (body_of rest)) → k ≤ item_count (body_of rest)
    → place_of start rest k ≤ start + image_size rest
place_le start rest k front are le =
    let long = body_long rest front in
    let within : bound (body_of rest) k ≤ length (body_of rest) = are.within k le in
    omega (arith, long, within, front.within)

pub whole_le : (start : ℕ) (whole : List ℕ) → IsFront (drop start whole)
    → start + image_size (drop start whole) ≤ length whole
whole_le start whole front =
    let long : length (drop start whole) ≡ length whole - start = length-drop start whole in
    omega (arith, long, front.there, front.low, front.within)

-- where the next item begins
pub place_next : (start : ℕ) (rest : List ℕ) (k : ℕ)
    → AreBounds (body_of rest) (length (body_of rest)) → k < item_count (body_of rest)
    → place_of start rest k + item_size (body_of rest) k ≡ place_of start rest (k + 1)
place_next start rest k are here =
    let rise : bound (body_of rest) k ≤ bound (body_of rest) (k + 1) = are.rising k here in
    omega (arith, rise)

-- the end of the body
pub place_end : (start : ℕ) (rest : List ℕ) (k : ℕ) → IsFront rest → item_count (body_of rest) ≤ k
    → place_of start rest k ≡ start + image_size rest
place_end start rest k front end =
    let long = body_long rest front in
    let e : bound (body_of rest) k ≡ length (body_of rest) = bound_ends (body_of rest) k end in
    omega (arith, long, e, front.within)

-- few items fit into a capsule
pub few : (h s d n : ℕ) (rest : List ℕ) → FmpIs h s d n rest → n < 2 ^ 23
few h s d n rest f =
    let long = body_long rest f.front in
    omega (arith, long, f.list, f.front.limit, f.items)

-- ---- lists of items

pub items_next : (c : ℕ) (body : List ℕ) (k : ℕ) → k < item_count body
    → items_from c body k ≡ item_structures c body k ++ items_from c body (k + 1)
items_next c body k here =
    let n : item_count body - k ≡ suc (item_count body - (k + 1)) = omega (arith, here) in
    rw n refl

pub items_none : (c : ℕ) (body : List ℕ) (k : ℕ) → item_count body ≤ k → items_from c body k ≡ []
items_none c body k end =
    let n : item_count body - k ≡ 0 = omega (arith, end) in
    rw n refl

pub images_next : (body : List ℕ) (at k : ℕ) → k < item_count body
    → images_told body at k ≡ image_told body at k ++ images_told body at (k + 1)
images_next body at k here =
    let n : item_count body - k ≡ suc (item_count body - (k + 1)) = omega (arith, here) in
    rw n refl

pub images_none : (body : List ℕ) (at k : ℕ) → item_count body ≤ k → images_told body at k ≡ []
images_none body at k end =
    let n : item_count body - k ≡ 0 = omega (arith, end) in
    rw n refl

pub driver_next : (c : ℕ) (body : List ℕ) (k : ℕ) → k < item_count body → k < driver_count body
    → items_from c body k
    ≡ structure Driver c k (item_size body k) ∷ items_from c body (k + 1)
driver_next c body k here low =
    items_next c body k here
    ∙ ap (λ (l : List Structure). l ++ items_from c body (k + 1))
    (cond-true (ltb k (driver_count body)) (structure Driver c k (item_size body k) ∷ [])
    (structure ImageHead c k (image_header_size (image_version (item body k))) ∷ image_parts c body k)
    (lt-ltb k (driver_count body) low))

pub image_next : (c : ℕ) (body : List ℕ) (k : ℕ) → k < item_count body → driver_count body ≤ k
    → items_from c body k
    ≡ structure ImageHead c k (image_header_size (image_version (item body k)))
    ∷ (image_parts c body k ++ items_from c body (k + 1))
image_next c body k here high =
    items_next c body k here
    ∙ ap (λ (l : List Structure). l ++ items_from c body (k + 1))
    (cond-false (ltb k (driver_count body)) (structure Driver c k (item_size body k) ∷ [])
    (structure ImageHead c k (image_header_size (image_version (item body k))) ∷ image_parts c body k)
    (le-ltb k (driver_count body) high))

-- ---- the parts of an image item

-- the parts of an item whose parts are there
pub record PartPlaces (start k v p e : ℕ) (rest : List ℕ) : Type 0 where
  pub image : image_place start rest k ≤ v
  pub vendor : v ≤ p
  pub pad : p ≤ e
  pub rest_is : p + (item_size (body_of rest) k - image_parts_size (item (body_of rest) k)) ≡ e

pub part_places : (start k v p e : ℕ) (rest : List ℕ) → ImageIs start k v p e rest
    → AreBounds (body_of rest) (length (body_of rest)) → PartPlaces start k v p e rest
part_places start k v p e rest i are =
    let next = place_next start rest k are i.here in
    record {
      image = omega (arith, i.vendor);
      vendor = omega (arith, i.pad);
      pad = omega (arith, i.vendor, i.pad, i.end, i.parts, next);
      rest_is = omega (arith, i.vendor, i.pad, i.end, i.parts, next);
    }

-- a reader in a part of an image item
pub part_goes_at : (c : Cursor) (own : List ℕ) (x : ℕ) (whole : List ℕ) (kind : SpanKind) (from to size : ℕ)
    (tail : List Structure) → c.kind ≡ kind
    → ItemsAre c.header_size c.image_size c.drivers c.items own (drop c.start whole)
    → ImageIs c.start c.item c.vendor_at c.pad_at c.item_end (drop c.start whole)
    → IsLeft c.fate c.total c.capsule c.start from (structure kind c.capsule c.item size ∷ tail)
    (images_left (c.item + 1) (drop c.start whole)) whole
    → c.at ≡ from → c.stop ≡ to → from ≤ x → x < to → to ≤ from + size → to ≤ c.item_end
    → InStructure kind c own whole → IsHead kind c [] x whole → Goes c own [] x whole
part_goes_at c own x whole kind from to size tail same items i left at stop reached more fits high inside head =
    let rest = drop c.start whole in
    let body = body_of rest in
    let are = items.bounds in
    let front = items.fmp.front in
    let there : place_of c.start rest (c.item + 1) ≤ c.start + image_size rest =
    place_le c.start rest (c.item + 1) front are (omega (arith, i.here)) in
    let all = whole_le c.start whole front in
    let bounded : to ≤ place_of c.start rest (c.item + 1) = omega (arith, high, i.end) in
    let next = header_size rest + bound body (c.item + 1) in
    let later : (t : Told) → told_of whole ≡ Some t → c.stop ≤ t.reach =
    λ t told. omega (
      arith,
      stop,
      bounded,
      left_later c.fate c.total c.capsule c.start from next
          (c.start + next) (structure kind c.capsule c.item size ∷ tail) (images_left (c.item + 1) rest) whole left
          (λ u e. images_behind body (header_size rest) (c.item + 1) u are e)
          (λ none. omega (arith, there)) refl t told,
    ) in
    goes_on c own x whole kind size tail (images_left (c.item + 1) rest) same
    (rw at left) (omega (arith, more, stop)) (omega (arith, at, reached)) (omega (arith, fits, stop, at))
    (omega (arith, stop, bounded, there, all)) later inside head

pub part_goes : (c : Cursor) (own whole : List ℕ) (kind : SpanKind) (from to size : ℕ)
    (tail : List Structure) → c.kind ≡ kind
    → ItemsAre c.header_size c.image_size c.drivers c.items own (drop c.start whole)
    → ImageIs c.start c.item c.vendor_at c.pad_at c.item_end (drop c.start whole)
    → IsLeft c.fate c.total c.capsule c.start from (structure kind c.capsule c.item size ∷ tail)
    (images_left (c.item + 1) (drop c.start whole)) whole
    → c.at ≡ from → c.stop ≡ to → from < to → to ≤ from + size → to ≤ c.item_end
    → InStructure kind c own whole → IsHead kind c [] from whole → Goes c own [] from whole
part_goes c own whole kind from to size tail same items i left at stop more fits high inside head =
    part_goes_at c own from whole kind from to size tail same items i left at stop (omega arith) more
    fits high inside head

pub past_image : (c : Cursor) (own whole : List ℕ)
    → AtParts c own (image_place c.start (drop c.start whole) c.item)
    (λ rest. image_parts c.capsule (body_of rest) c.item) whole
    → AtParts c own c.vendor_at (vendor_parts c.capsule c.item) whole
past_image c own whole h =
    let rest = drop c.start whole in
    let body = body_of rest in
    record {
      items = h.items;
      parts = h.parts;
      left = left_passed c.fate c.total c.capsule c.start (image_place c.start rest c.item) c.vendor_at
          (structure Image c.capsule c.item (number_at (item body c.item) 24 4))
          (vendor_parts c.capsule c.item rest ++ items_from c.capsule body (c.item + 1))
          (images_left (c.item + 1) rest) whole h.left (omega (arith, h.parts.vendor));
    }

pub past_vendor : (c : Cursor) (own whole : List ℕ)
    → AtParts c own c.vendor_at (vendor_parts c.capsule c.item) whole
    → AtParts c own c.pad_at (pad_parts c.capsule c.item) whole
past_vendor c own whole h =
    let rest = drop c.start whole in
    let body = body_of rest in
    record {
      items = h.items;
      parts = h.parts;
      left = left_passed c.fate c.total c.capsule c.start c.vendor_at c.pad_at
          (structure Vendor c.capsule c.item (number_at (item body c.item) 28 4))
          (pad_parts c.capsule c.item rest ++ items_from c.capsule body (c.item + 1))
          (images_left (c.item + 1) rest) whole h.left (omega (arith, h.parts.pad));
    }

pub past_pad : (c : Cursor) (own whole : List ℕ)
    → AtParts c own c.pad_at (pad_parts c.capsule c.item) whole → AtItem c own (c.item + 1) whole
past_pad c own whole h =
    let rest = drop c.start whole in
    let body = body_of rest in
    let p = part_places c.start c.item c.vendor_at c.pad_at c.item_end rest h.parts h.items.bounds in
    let size = item_size body c.item - image_parts_size (item body c.item) in
    let same : max (driver_count body) (c.item + 1) ≡ c.item + 1 = omega (arith, h.parts.low) in
    let end : c.pad_at + size ≡ place_of c.start rest (c.item + 1) = p.rest_is ∙ h.parts.end in
    record {
      items = h.items;
      here = omega (arith, h.parts.here, h.items.fmp.items);
      left = rw same (left_passed c.fate c.total c.capsule c.start c.pad_at
          (place_of c.start rest (c.item + 1))
          (structure Pad c.capsule c.item size)
          (items_from c.capsule body (c.item + 1))
          (images_left (c.item + 1) rest) whole h.left end);
    }

-- ---- items

-- behind the last item
pub items_end : (c : Cursor) (own : List ℕ) (k : ℕ) (whole : List ℕ) → AtItem c own k whole
    → c.items ≤ k → AtEnd c whole
items_end c own k whole h end =
    let rest = drop c.start whole in
    let body = body_of rest in
    let n : item_count body ≤ k = omega (arith, end, h.items.fmp.items) in
    let none : items_from c.capsule body k ≡ [] = items_none c.capsule body k n in
    let untold : images_left (max (driver_count body) k) rest ≡ [] =
    images_none body (header_size rest) (max (driver_count body) k) (omega (arith, n)) in
    let place : place_of c.start rest k ≡ c.start + image_size rest =
    place_end c.start rest k h.items.fmp.front n in
    record {
      front = h.items.fmp.front;
      image = h.items.fmp.image;
      left = subst (λ (a : ℕ). IsLeft c.fate c.total c.capsule c.start a [] [] whole) place
          (subst (λ (l : List Structure). IsLeft c.fate c.total c.capsule c.start
          (place_of c.start rest k) l [] whole) none
          (subst (λ (l : List (Row Told)). IsLeft c.fate c.total c.capsule c.start
          (place_of c.start rest k) (items_from c.capsule body k) l whole) untold h.left));
    }

-- behind a driver
pub past_driver : (c : Cursor) (own : List ℕ) (k : ℕ) (whole : List ℕ) → AtItem c own k whole
    → k < c.drivers → AtItem c own (k + 1) whole
past_driver c own k whole h low =
    let rest = drop c.start whole in
    let body = body_of rest in
    let d : k < driver_count body = omega (arith, low, h.items.fmp.drivers) in
    let here : k < item_count body = omega (arith, d) in
    let before : max (driver_count body) k ≡ driver_count body = omega (arith, d) in
    let behind : max (driver_count body) (k + 1) ≡ driver_count body = omega (arith, d) in
    let next = driver_next c.capsule body k here d in
    let left : IsLeft c.fate c.total c.capsule c.start (place_of c.start rest k)
    (structure Driver c.capsule k (item_size body k) ∷ items_from c.capsule body (k + 1))
    (images_left (driver_count body) rest) whole =
    subst (λ (l : List Structure). IsLeft c.fate c.total c.capsule c.start (place_of c.start rest k) l
    (images_left (driver_count body) rest) whole) next
    (subst (λ (m : ℕ). IsLeft c.fate c.total c.capsule c.start (place_of c.start rest k)
    (items_from c.capsule body k) (images_left m rest) whole) before h.left) in
    record {
      items = h.items;
      here = omega (arith, here, h.items.fmp.items);
      left = rw behind (left_passed c.fate c.total c.capsule c.start (place_of c.start rest k)
          (place_of c.start rest (k + 1)) (structure Driver c.capsule k (item_size body k))
          (items_from c.capsule body (k + 1)) (images_left (driver_count body) rest) whole left
          (place_next c.start rest k h.items.bounds here));
    }

-- only the last driver can be empty
pub last_driver : (c : Cursor) (own : List ℕ) (k : ℕ) (whole : List ℕ) → AtItem c own k whole
    → k < c.items → place_of c.start (drop c.start whole) k ≡ place_of c.start (drop c.start whole) (k + 1)
    → c.items ≤ k + 1
last_driver c own k whole h here empty =
    let rest = drop c.start whole in
    let body = body_of rest in
    elim (cases_lt (k + 1) c.items) [
      | inl more ↦
          let apart : bound body k < bound body (k + 1) =
          h.items.bounds.apart k (omega (arith, more, h.items.fmp.items)) in
          absurd (omega (arith, apart, empty))
      | inr last ↦ last
    ]

-- a driver that has a byte
pub driver_goes : (c : Cursor) (own whole : List ℕ) → c.kind ≡ Driver
    → ItemsAre c.header_size c.image_size c.drivers c.items own (drop c.start whole)
    → c.item < c.drivers → c.at ≡ place_of c.start (drop c.start whole) c.item
    → c.stop ≡ place_of c.start (drop c.start whole) (c.item + 1) → c.at < c.stop
    → IsLeft c.fate c.total c.capsule c.start (place_of c.start (drop c.start whole) c.item)
    (items_from c.capsule (body_of (drop c.start whole)) c.item)
    (images_left (max (driver_count (body_of (drop c.start whole))) c.item) (drop c.start whole)) whole
    → Goes c own [] (place_of c.start (drop c.start whole) c.item) whole
driver_goes c own whole same items low at stop more left =
    let rest = drop c.start whole in
    let body = body_of rest in
    let k = c.item in
    let are = items.bounds in
    let front = items.fmp.front in
    let d : k < driver_count body = omega (arith, low, items.fmp.drivers) in
    let here : k < item_count body = omega (arith, d) in
    let before : max (driver_count body) k ≡ driver_count body = omega (arith, d) in
    let left1 : IsLeft c.fate c.total c.capsule c.start (place_of c.start rest k)
    (items_from c.capsule body k) (images_left (driver_count body) rest) whole =
    subst (λ (m : ℕ). IsLeft c.fate c.total c.capsule c.start (place_of c.start rest k)
    (items_from c.capsule body k) (images_left m rest) whole) before left in
    let left2 : IsLeft c.fate c.total c.capsule c.start (place_of c.start rest k)
    (structure Driver c.capsule k (item_size body k) ∷ items_from c.capsule body (k + 1))
    (images_left (driver_count body) rest) whole =
    subst (λ (l : List Structure). IsLeft c.fate c.total c.capsule c.start (place_of c.start rest k) l
    (images_left (driver_count body) rest) whole) (driver_next c.capsule body k here d) left1 in
    let there : place_of c.start rest (k + 1) ≤ c.start + image_size rest =
    place_le c.start rest (k + 1) front are (omega (arith, here)) in
    let first : place_of c.start rest (driver_count body) ≤ c.start + image_size rest =
    place_le c.start rest (driver_count body) front are (omega arith) in
    let all = whole_le c.start whole front in
    let n = driver_count body - (k + 1) in
    let sum : (k + 1) + n ≡ driver_count body = omega (arith, d) in
    let up : bound body (k + 1) ≤ bound body ((k + 1) + n) =
    bounds_rise body (k + 1) n are (omega (arith, sum)) in
    let on : bound body (k + 1) ≤ bound body (driver_count body) =
    subst (λ (m : ℕ). bound body (k + 1) ≤ bound body m) sum up in
    let low2 = header_size rest + bound body (driver_count body) in
    let later : (t : Told) → told_of whole ≡ Some t → c.stop ≤ t.reach =
    λ t told. omega (
      arith,
      stop,
      on,
      left_later c.fate c.total c.capsule c.start
          (place_of c.start rest k) low2 (c.start + low2) (items_from c.capsule body k)
          (images_left (driver_count body) rest) whole left1
          (λ u e. images_behind body (header_size rest) (driver_count body) u are e)
          (λ none. omega (arith, first)) refl t told,
    ) in
    let next = place_next c.start rest k are here in
    goes_on c own (place_of c.start rest k) whole Driver (item_size body k)
    (items_from c.capsule body (k + 1)) (images_left (driver_count body) rest) same
    (rw at left2) (omega (arith, at, more)) (omega (arith, at)) (omega (arith, at, stop, next))
    (omega (arith, stop, there, all)) later
    (record {
      items = items;
      here = omega (arith, here, items.fmp.items);
      low = low;
      at = at;
      stop = stop;
      left = rw at left1;
    }) tt

-- an image item that has a byte
pub image_goes : (c : Cursor) (own whole : List ℕ) → c.kind ≡ ImageHead
    → ItemsAre c.header_size c.image_size c.drivers c.items own (drop c.start whole)
    → c.item < c.items → c.drivers ≤ c.item → c.tested ≡ c.item
    → c.at ≡ place_of c.start (drop c.start whole) c.item
    → c.item_end ≡ place_of c.start (drop c.start whole) (c.item + 1)
    → c.stop ≡ c.at + min 32 (c.item_end - c.at) → c.at < c.item_end
    → IsLeft c.fate c.total c.capsule c.start c.at
    (items_from c.capsule (body_of (drop c.start whole)) c.item)
    (images_left c.item (drop c.start whole)) whole → Goes c own [] c.at whole
image_goes c own whole same items here low tested at end stop more left =
    let rest = drop c.start whole in
    let body = body_of rest in
    let k = c.item in
    let are = items.bounds in
    let front = items.fmp.front in
    let inside : k < item_count body = omega (arith, here, items.fmp.items) in
    let d : driver_count body ≤ k = omega (arith, low, items.fmp.drivers) in
    let hs = image_header_size (image_version (item body k)) in
    let least = header_least (image_version (item body k)) in
    let left1 : IsLeft c.fate c.total c.capsule c.start c.at
    (structure ImageHead c.capsule k hs ∷ (image_parts c.capsule body k ++ items_from c.capsule body (k + 1)))
    (images_left k rest) whole =
    subst (λ (l : List Structure). IsLeft c.fate c.total c.capsule c.start c.at l
    (images_left k rest) whole) (image_next c.capsule body k inside d) left in
    let there : place_of c.start rest (k + 1) ≤ c.start + image_size rest =
    place_le c.start rest (k + 1) front are (omega (arith, inside)) in
    let all = whole_le c.start whole front in
    let next = place_next c.start rest k are inside in
    let low2 = header_size rest + bound body k + min 32 (item_size body k) in
    let later : (t : Told) → told_of whole ≡ Some t → c.stop ≤ t.reach =
    λ t told. omega (
      arith,
      stop,
      at,
      end,
      next,
      left_later c.fate c.total c.capsule c.start
          c.at low2 (c.start + low2) (items_from c.capsule body k)
          (images_left k rest) whole left
          (λ u e. images_low body (header_size rest) k u are inside e)
          (λ none. omega (arith, there, next)) refl t told,
    ) in
    goes_on c own c.at whole ImageHead hs
    (image_parts c.capsule body k ++ items_from c.capsule body (k + 1)) (images_left k rest) same
    left1 (omega (arith, stop, more)) (omega arith) (omega (arith, stop, least))
    (omega (arith, stop, end, there, all)) later
    (inl (
      tested,
      record {
        kind = same;
        items = items;
        here = here;
        low = low;
        at = at;
        end = end;
        stop = stop;
        left = left;
      },
    )) (λ e. no_head c.at c.at whole refl)

first_holds : {R : Type 0} (b : Bool) (r : R) (later : Option R) → b ≡ true
    → cond b (Some r) later ≡ Some r
first_holds b r later e = rw e refl

-- an image item of no bytes is refused
pub image_empty : (c : Cursor) (own whole : List ℕ) (p : ℕ)
    → ItemsAre c.header_size c.image_size c.drivers c.items own (drop c.start whole)
    → c.item < c.items → c.drivers ≤ c.item
    → c.at ≡ place_of c.start (drop c.start whole) c.item
    → place_of c.start (drop c.start whole) (c.item + 1) ≤ c.at → p ≡ c.at - c.start
    → IsLeft c.fate c.total c.capsule c.start c.at
    (items_from c.capsule (body_of (drop c.start whole)) c.item)
    (images_left c.item (drop c.start whole)) whole
    → Goes (record c {
      fate = Tells (record { at = min (c.start + p) (2 ^ 32 - 1); why = Short });
      stop = min (c.start + p) (2 ^ 32 - 1);
    }) own [] c.at whole
image_empty c own whole p items here low at empty place left =
    let rest = drop c.start whole in
    let body = body_of rest in
    let k = c.item in
    let h = header_size rest in
    let are = items.bounds in
    let inside : k < item_count body = omega (arith, here, items.fmp.items) in
    let next = place_next c.start rest k are inside in
    let none : item_size body k ≡ 0 = omega (arith, next, empty, at) in
    let long : length (item body k) ≡ 0 = item_length body k are inside ∙ none in
    let reach0 : image_reach (item body k) ≡ 0 = omega (arith, long) in
    let reach : h + bound body k + image_reach (item body k) ≡ p = omega (arith, reach0, place, at) in
    let refused : first_refusal (image_rows (item body k) (h + bound body k)) ≡ Some (p, Short) =
    first_holds (ltb (length (item body k)) 32) (h + bound body k, Short) _
    (lt-ltb (length (item body k)) 32 (omega (arith, long)))
    ∙ ap (λ (n : ℕ). Some (n, Short)) (omega (arith, place, at)) in
    let rows : IsLeft c.fate c.total c.capsule c.start c.at (items_from c.capsule body k)
    (image_told body h k ++ images_told body h (k + 1)) whole =
    subst (λ (l : List (Row Told)). IsLeft c.fate c.total c.capsule c.start c.at
    (items_from c.capsule body k) l whole) (images_next body h k inside) left in
    let rows2 : IsLeft c.fate c.total c.capsule c.start c.at (items_from c.capsule body k)
    (reading p (image_rows (item body k) (h + bound body k)) ++ images_told body h (k + 1)) whole =
    subst (λ (n : ℕ). IsLeft c.fate c.total c.capsule c.start c.at (items_from c.capsule body k)
    (reading n (image_rows (item body k) (h + bound body k)) ++ images_told body h (k + 1)) whole)
    reach rows in
    let there : place_of c.start rest k ≤ c.start + image_size rest =
    place_le c.start rest k items.fmp.front are (omega (arith, inside)) in
    let all = whole_le c.start whole items.fmp.front in
    let stop : c.start + p ≡ c.at = omega (arith, place, at) in
    goes_told c own c.at whole (record { at = p; why = Short }) p
    (items_from c.capsule body k) (image_rows (item body k) (h + bound body k))
    (images_told body h (k + 1)) rows2 refused
    (rw stop (no_hand c.kind c.capsule c.item c.at whole))
    (omega arith) (omega (arith, stop)) (omega (arith, stop, at, there, all)) (omega arith)
