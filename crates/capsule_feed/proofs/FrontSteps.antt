-- Through FMP header and offset list.
use Rattle.std.proofs.Common.{◌≡◌, ◌≢◌, ◌⊎◌, ℕ, suc, ◌+◌, ◌*◌, ◌-◌, ◌^◌, ◌<◌, ◌≤◌, min, max}
use Rattle.std.proofs.Common.{List, [], ◌∷◌, ◌++◌}
use Rattle.std.proofs.Common.{length, drop, not, Bool, true, false, cond, ltb, Some, None, refl}
use Rattle.std.proofs.Common.{sym, ap}
use Rattle.std.proofs.Common.{◌∙◌, inl, inr, arith, subst, ◌==◌}
use Rattle.std.proofs.lemmas.Bool.{ltb-false, ltb-true}
use Rattle.cu_base.specs.Refusals.{Row, first_refusal}
use Rattle.cu_base.proofs.Rows.{passed}
use Rattle.cu_base.specs.Fields.{field, number_at}
use Rattle.fmp_headers.specs.CapsuleHeader.{header_size, image_size}
use Rattle.capsule_grammar.specs.declared.refusal.Why.{Why}
use Rattle.capsule_grammar.specs.declared.refusal.Why.TheVariants as whys
use Rattle.capsule_grammar.specs.declared.refusal.Refusal.{Refusal}
use Rattle.capsule_grammar.specs.Fronts.{Begins}
use Rattle.capsule_grammar.specs.Refusals.{body_of, bound, item_count, driver_count, list_end}
use Rattle.capsule_grammar.specs.Refusals.{fmp_front_rows}
use Rattle.capsule_grammar.proofs.FrontLemmas.{number_same}
use Rattle.capsule_grammar.proofs.Offsets.{are_bounds}
use Rattle.capsule_grammar.proofs.Read.{bounds_rise}
use Rattle.capsule_feed.specs.Structures.{structure, items_from, behind_list, behind_fmp_head}
use Rattle.capsule_feed.specs.Told.{Told, told_of, front_reach, fmp_front_told, items_told}
use Rattle.capsule_feed.specs.Told.{offset_told, offsets_told, reading}
use Rattle.capsule_feed.specs.Cursors.{AtItem, AtLead, FmpIs, Goes, HasHead, InFmpHead}
use Rattle.capsule_feed.specs.Cursors.{IsInHand, IsLeft, ItemsAre, OffsetsAre}
use Rattle.capsule_feed.specs.Cursors.{images_left, place_of}
use Rattle.capsule_feed.specs.declared.cursor.Cursor.{Cursor}
use Rattle.capsule_feed.specs.declared.cursor.Fate.TheVariants.{Tells}
use Rattle.capsule_feed.specs.declared.span.SpanKind.TheVariants.{FmpHead, Offsets, Lead}
use Rattle.capsule_feed.proofs.Reaches.{images_behind, items_low}
use Rattle.capsule_feed.proofs.Goings.{left_hand, left_later, left_passed, left_tested}
use Rattle.capsule_feed.proofs.Steps.{goes_on, goes_told, no_head}
use Rattle.capsule_feed.proofs.HeadLemmas.{body_is, head_begins}
use Rattle.capsule_feed.proofs.ItemSteps.{body_long, place_le, whole_le}

-- ---- the lead

pub past_lead : (c : Cursor) (own whole : List ℕ) → AtLead c own whole → AtItem c own 0 whole
past_lead c own whole h =
    let rest = drop c.start whole in
    let body = body_of rest in
    let first : list_end body ≤ bound body 0 = h.items.bounds.behind 0 (omega arith) in
    let same : max (driver_count body) 0 ≡ driver_count body = omega arith in
    record {
      items = h.items;
      here = omega arith;
      left = rw same (left_passed c.fate c.total c.capsule c.start
          (c.start + header_size rest + list_end body) (place_of c.start rest 0)
          (structure Lead c.capsule 0 (bound body 0 - list_end body)) (items_from c.capsule body 0)
          (images_left (driver_count body) rest) whole h.left (omega (arith, first)));
    }

pub lead_goes : (c : Cursor) (own whole : List ℕ) → c.kind ≡ Lead → c.item ≡ 0
    → ItemsAre c.header_size c.image_size c.drivers c.items own (drop c.start whole)
    → c.at ≡ c.start + header_size (drop c.start whole) + list_end (body_of (drop c.start whole))
    → c.stop ≡ place_of c.start (drop c.start whole) 0 → c.at ≢ c.stop
    → IsLeft c.fate c.total c.capsule c.start
    (c.start + header_size (drop c.start whole) + list_end (body_of (drop c.start whole)))
    (behind_list c.capsule (body_of (drop c.start whole)))
    (images_left (driver_count (body_of (drop c.start whole))) (drop c.start whole)) whole
    → Goes c own []
    (c.start + header_size (drop c.start whole) + list_end (body_of (drop c.start whole))) whole
lead_goes c own whole kind item items at stop apart left =
    let rest = drop c.start whole in
    let body = body_of rest in
    let are = items.bounds in
    let here = c.start + header_size rest + list_end body in
    let first : list_end body ≤ bound body 0 = are.behind 0 (omega arith) in
    let there : place_of c.start rest 0 ≤ c.start + image_size rest =
    place_le c.start rest 0 items.fmp.front are (omega arith) in
    let last : place_of c.start rest (driver_count body) ≤ c.start + image_size rest =
    place_le c.start rest (driver_count body) items.fmp.front are (omega arith) in
    let all = whole_le c.start whole items.fmp.front in
    let sum : 0 + driver_count body ≡ driver_count body = omega arith in
    let up : bound body 0 ≤ bound body (0 + driver_count body) =
    bounds_rise body 0 (driver_count body) are (omega arith) in
    let on : bound body 0 ≤ bound body (driver_count body) =
    subst (λ (m : ℕ). bound body 0 ≤ bound body m) sum up in
    let low = header_size rest + bound body (driver_count body) in
    let later : (t : Told) → told_of whole ≡ Some t → c.stop ≤ t.reach =
    λ t told. omega (
      arith,
      stop,
      on,
      left_later c.fate c.total c.capsule c.start here low (c.start + low)
          (behind_list c.capsule body) (images_left (driver_count body) rest) whole left
          (λ u e. images_behind body (header_size rest) (driver_count body) u are e)
          (λ none. omega (arith, last)) refl t told,
    ) in
    let left1 : IsLeft c.fate c.total c.capsule c.start c.at
    (structure Lead c.capsule c.item (bound body 0 - list_end body) ∷ items_from c.capsule body 0)
    (images_left (driver_count body) rest) whole = rw (at, item) left in
    goes_on c own here whole Lead (bound body 0 - list_end body) (items_from c.capsule body 0)
    (images_left (driver_count body) rest) kind left1
    (omega (arith, at, stop, apart, first)) (omega (arith, at)) (omega (arith, at, stop, first))
    (omega (arith, stop, there, all)) later
    (record { items = items; at = at; stop = stop; left = rw at left }) tt

-- ---- the offsets

pub offsets_next : (body : List ℕ) (at k : ℕ) → k < item_count body
    → offsets_told body at k ≡ offset_told body at k ++ offsets_told body at (k + 1)
offsets_next body at k here =
    let n : item_count body - k ≡ suc (item_count body - (k + 1)) = omega (arith, here) in
    rw n refl

pub offsets_none : (body : List ℕ) (at k : ℕ) → item_count body ≤ k → offsets_told body at k ≡ []
offsets_none body at k end =
    let n : item_count body - k ≡ 0 = omega (arith, end) in
    rw n refl

-- all offsets passed
pub all_offsets : (c : Cursor) (own : List ℕ) (n : ℕ) (whole : List ℕ)
    → FmpIs c.header_size c.image_size c.drivers c.items (drop c.start whole)
    → OffsetsAre own n (drop c.start whole) → c.items ≡ n
    → IsLeft c.fate c.total c.capsule c.start (c.start + header_size (drop c.start whole) + 8)
    (behind_fmp_head c.capsule (body_of (drop c.start whole)))
    (offsets_told (body_of (drop c.start whole)) (header_size (drop c.start whole)) n
    ++ images_left (driver_count (body_of (drop c.start whole))) (drop c.start whole)) whole
    → AtLead c own whole
all_offsets c own n whole f o e left =
    let rest = drop c.start whole in
    let body = body_of rest in
    let count : item_count body ≡ n = omega (arith, e, f.items) in
    let none : offsets_told body (header_size rest) n ≡ [] =
    offsets_none body (header_size rest) n (omega (arith, count)) in
    let rows : IsLeft c.fate c.total c.capsule c.start (c.start + header_size rest + 8)
    (behind_fmp_head c.capsule body) (images_left (driver_count body) rest) whole =
    subst (λ (l : List (Row Told)). IsLeft c.fate c.total c.capsule c.start
    (c.start + header_size rest + 8) (behind_fmp_head c.capsule body)
    (l ++ images_left (driver_count body) rest) whole) none left in
    record {
      items = record {
        fmp = f;
        bounds = are_bounds body (header_size rest) f.list (λ k here. o.passed k (omega (arith, here, count)));
        each = λ k here. o.each k (omega (arith, here, e));
      };
      left = left_passed c.fate c.total c.capsule c.start (c.start + header_size rest + 8)
          (c.start + header_size rest + list_end body)
          (structure Offsets c.capsule 0 (8 * item_count body)) (behind_list c.capsule body)
          (images_left (driver_count body) rest) whole rows (omega arith);
    }

-- in an offset
pub offset_goes : (c : Cursor) (own : List ℕ) (x : ℕ) (whole : List ℕ) → c.kind ≡ Offsets → c.item ≡ 0
    → FmpIs c.header_size c.image_size c.drivers c.items (drop c.start whole)
    → OffsetsAre own c.tested (drop c.start whole) → c.tested < c.items
    → c.at ≡ c.start + header_size (drop c.start whole) + 8
    → c.stop ≡ c.at + 8 + 8 * c.tested → x ≡ c.at + 8 * c.tested
    → IsLeft c.fate c.total c.capsule c.start c.at
    (behind_fmp_head c.capsule (body_of (drop c.start whole)))
    (offsets_told (body_of (drop c.start whole)) (header_size (drop c.start whole)) c.tested
    ++ images_left (driver_count (body_of (drop c.start whole))) (drop c.start whole)) whole
    → Goes c own [] x whole
offset_goes c own x whole kind item f o here at stop reached left =
    let rest = drop c.start whole in
    let body = body_of rest in
    let hd = header_size rest in
    let n = item_count body in
    let rows = offsets_told body hd c.tested ++ images_left (driver_count body) rest in
    let inside : c.tested < n = omega (arith, here, f.items) in
    let long = body_long rest f.front in
    let all = whole_le c.start whole f.front in
    let low = hd + 8 + (8 + 8 * c.tested) in
    let later : (t : Told) → told_of whole ≡ Some t → c.stop ≤ t.reach =
    left_later c.fate c.total c.capsule c.start c.at low c.stop (behind_fmp_head c.capsule body) rows whole
    left
    (λ u e. omega (arith, inside, items_low body hd c.tested u f.list (omega (arith, inside)) o.passed e))
    (λ none. omega (arith, inside, f.list, long, f.front.within)) (omega (arith, at, stop)) in
    let left1 : IsLeft c.fate c.total c.capsule c.start c.at
    (structure Offsets c.capsule c.item (8 * n) ∷ behind_list c.capsule body) rows whole =
    rw item left in
    goes_on c own x whole Offsets (8 * n) (behind_list c.capsule body) rows kind left1
    (omega (arith, reached, stop)) (omega (arith, reached)) (omega (arith, stop, inside))
    (omega (arith, stop, at, inside, f.list, long, f.front.within, all)) later
    (record {
      kind = kind;
      item = item;
      known = f;
      offsets = o;
      here = here;
      at = at;
      stop = stop;
      left = left;
    }) (no_head (c.stop - 8) x whole (omega (arith, stop, reached)))

-- no offset
pub no_offsets : (rest : List ℕ) → OffsetsAre [] 0 rest
no_offsets rest = record {
  long = refl;
  each = λ k here. absurd (omega (arith, here));
  passed = λ k here. absurd (omega (arith, here));
}

-- ---- the FMP header

-- what the three tests of the front say of how far they read
pub record IsEarly (len l r at reach : ℕ) : Type 0 where
  pub place : r ≡ at
  pub far : reach ≡ min 8 len

pub record IsListShort (len l r at reach : ℕ) : Type 0 where
  pub place : r ≡ at + 8
  pub far : reach ≡ len
  pub some : 8 ≤ len
  pub short : len < l

front_cases : (b1 v b3 : Bool) (len l at : ℕ) (r : ℕ × Why) → ltb len 8 ≡ b1 → ltb len l ≡ b3 → 8 ≤ l
    → cond b1 (Some (at, whys.Short)) (cond (not v) (Some (at, whys.BadFmpVersion))
    (cond b3 (Some (at + 8, whys.Short)) None)) ≡ Some r
    → IsEarly len l (r.0) at (min len (cond v l 8)) ⊎ IsListShort len l (r.0) at (min len (cond v l 8))
front_cases true true b3 len l at r e1 e3 le e =
    let same : (at, whys.Short) ≡ r = cc in
    let low : len < 8 = ltb-true len 8 e1 in
    inl (record { place = sym (ap (λ (x : ℕ × Why). x.0) same); far = omega (arith, low, le) })
front_cases true false b3 len l at r e1 e3 le e =
    let same : (at, whys.Short) ≡ r = cc in
    inl (record { place = sym (ap (λ (x : ℕ × Why). x.0) same); far = omega arith })
front_cases false false b3 len l at r e1 e3 le e =
    let same : (at, whys.BadFmpVersion) ≡ r = cc in
    inl (record { place = sym (ap (λ (x : ℕ × Why). x.0) same); far = omega arith })
front_cases false true true len l at r e1 e3 le e =
    let same : (at + 8, whys.Short) ≡ r = cc in
    let low : len < l = ltb-true len l e3 in
    inr (record {
      place = sym (ap (λ (x : ℕ × Why). x.0) same);
      far = omega (arith, low);
      some = ltb-false len 8 e1;
      short = low;
    })
front_cases false true false len l at r e1 e3 le e = absurd cc

pub front_refused : (body : List ℕ) (at : ℕ) (r : ℕ × Why)
    → first_refusal (fmp_front_rows body at) ≡ Some r
    → IsEarly (length body) (list_end body) (r.0) at (front_reach body)
    ⊎ IsListShort (length body) (list_end body) (r.0) at (front_reach body)
front_refused body at r e =
    front_cases (ltb (length body) 8) (number_at body 0 4 == 1) (ltb (length body) (list_end body))
    (length body) (list_end body) at r refl refl (omega arith) e

pub fmp_begins : (c : Cursor) (head whole : List ℕ) → InFmpHead c whole → HasHead c.at c.stop head whole
    → Begins head (c.image_size - c.header_size) (body_of (drop c.start whole))
fmp_begins c head whole s h =
    let rest = drop c.start whole in
    let n = c.image_size - c.header_size in
    let long = body_long rest s.front in
    let all = whole_le c.start whole s.front in
    let size : n ≡ image_size rest - header_size rest = omega (arith, s.image, s.header) in
    let is : body_of rest ≡ field whole c.at n =
    body_is c.start whole
    ∙ ap (λ (a : ℕ). field whole a (image_size rest - header_size rest)) (sym s.at)
    ∙ ap (λ (m : ℕ). field whole c.at m) (sym size) in
    subst (λ (l : List ℕ). Begins head n l) (sym is)
    (head_begins whole head c.at c.stop n h (omega (arith, s.stop, size, long))
    (omega (arith, s.at, size, all, s.front.within)))

-- the front is refused before its offset list
pub fmp_refused : (c : Cursor) (whole : List ℕ) (r : Refusal) (reach : ℕ) → InFmpHead c whole
    → first_refusal (fmp_front_rows (body_of (drop c.start whole)) (header_size (drop c.start whole)))
    ≡ Some (r.at, r.why)
    → r.at ≡ header_size (drop c.start whole)
    → reach ≡ header_size (drop c.start whole) + min 8 (length (body_of (drop c.start whole)))
    → Goes (record c {
      fate = Tells (record { at = min (c.start + r.at) (2 ^ 32 - 1); why = r.why });
      stop = min (c.start + reach) (2 ^ 32 - 1);
    }) [] [] c.stop whole
fmp_refused c whole r reach s refused place e =
    let rest = drop c.start whole in
    let body = body_of rest in
    let hd = header_size rest in
    let long = body_long rest s.front in
    let all = whole_le c.start whole s.front in
    let far : front_reach body ≡ min 8 (length body) =
    elim (front_refused body hd (r.at, r.why) refused) [
      | inl early ↦ early.far
      | inr late ↦ absurd (omega (arith, late.place, place))
    ] in
    let e2 : hd + front_reach body ≡ reach = omega (arith, far, e) in
    let tail = behind_fmp_head c.capsule body in
    let left : IsLeft c.fate c.total c.capsule c.start c.at
    (structure FmpHead c.capsule 0 8 ∷ tail)
    (reading reach (fmp_front_rows body hd) ++ items_told body hd) whole =
    subst (λ (n : ℕ). IsLeft c.fate c.total c.capsule c.start c.at (structure FmpHead c.capsule 0 8 ∷ tail)
    (reading n (fmp_front_rows body hd) ++ items_told body hd) whole) e2 s.left in
    let hand : IsInHand FmpHead c.capsule 0 c.at (c.start + reach) whole =
    left_hand c.fate c.total c.capsule c.start c.at 8 (c.start + reach) FmpHead c.capsule 0 tail
    (reading reach (fmp_front_rows body hd) ++ items_told body hd) whole left
    (omega (arith, e, s.at)) in
    goes_told c [] c.stop whole r reach (structure FmpHead c.capsule 0 8 ∷ tail)
    (fmp_front_rows body hd) (items_told body hd) left refused
    (rw (s.kind, s.item) hand) (omega (arith, s.stop)) (omega (arith, e, s.at, s.stop))
    (omega (arith, e, long, all, s.front.within)) (omega (arith, e, place))

-- the offset list is short
pub list_refused : (c : Cursor) (whole : List ℕ) (r : Refusal) → InFmpHead c whole
    → first_refusal (fmp_front_rows (body_of (drop c.start whole)) (header_size (drop c.start whole)))
    ≡ Some (r.at, r.why)
    → r.at ≢ header_size (drop c.start whole)
    → Goes (record c {
      kind = Offsets;
      at = c.stop;
      fate = Tells (record { at = min (c.start + r.at) (2 ^ 32 - 1); why = r.why });
      stop = min (c.start + c.image_size) (2 ^ 32 - 1);
    }) [] [] c.stop whole
list_refused c whole r s refused place =
    let rest = drop c.start whole in
    let body = body_of rest in
    let hd = header_size rest in
    let reach = c.image_size in
    let long = body_long rest s.front in
    let all = whole_le c.start whole s.front in
    elim (front_refused body hd (r.at, r.why) refused) [
      | inl early ↦ absurd (place early.place)
      | inr late ↦
          let e2 : hd + front_reach body ≡ reach = omega (arith, late.far, long, s.image, s.front.within) in
          let tail = behind_list c.capsule body in
          let n = 8 * item_count body in
          let stop : c.at + 8 ≡ c.stop = omega (arith, s.stop, late.some) in
          let left0 : IsLeft c.fate c.total c.capsule c.start c.stop
          (structure Offsets c.capsule 0 n ∷ tail)
          (fmp_front_told body hd ++ items_told body hd) whole =
          left_passed c.fate c.total c.capsule c.start c.at c.stop (structure FmpHead c.capsule 0 8)
          (structure Offsets c.capsule 0 n ∷ tail) (fmp_front_told body hd ++ items_told body hd) whole
          s.left stop in
          let left : IsLeft c.fate c.total c.capsule c.start c.stop
          (structure Offsets c.capsule 0 n ∷ tail)
          (reading reach (fmp_front_rows body hd) ++ items_told body hd) whole =
          subst (λ (m : ℕ). IsLeft c.fate c.total c.capsule c.start c.stop
          (structure Offsets c.capsule 0 n ∷ tail)
          (reading m (fmp_front_rows body hd) ++ items_told body hd) whole) e2 left0 in
          let hand : IsInHand Offsets c.capsule 0 c.stop (c.start + reach) whole =
          left_hand c.fate c.total c.capsule c.start c.stop n (c.start + reach) Offsets c.capsule 0 tail
          (reading reach (fmp_front_rows body hd) ++ items_told body hd) whole left
          (omega (arith, e2, late.far, late.short, stop, s.at)) in
          goes_told (record c { kind = Offsets; at = c.stop }) [] c.stop whole r reach
          (structure Offsets c.capsule 0 n ∷ tail) (fmp_front_rows body hd) (items_told body hd) left refused
          (rw (s.item) hand) (omega arith) (omega (arith, e2, late.far, late.some, stop, s.at))
          (omega (arith, s.image, all)) (omega (arith, late.place, e2, late.far, late.some))
    ]

-- the front is accepted
pub fmp_known : (c : Cursor) (head whole : List ℕ) (d n : ℕ) → InFmpHead c whole
    → HasHead c.at c.stop head whole
    → first_refusal (fmp_front_rows (body_of (drop c.start whole)) (header_size (drop c.start whole)))
    ≡ None
    → 8 ≤ length head → d ≡ driver_count head → n ≡ item_count head
    → (c.stop ≡ c.start + header_size (drop c.start whole) + 8)
    × FmpIs c.header_size c.image_size d n (drop c.start whole)
    × IsLeft c.fate c.total c.capsule c.start (c.start + header_size (drop c.start whole) + 8)
    (behind_fmp_head c.capsule (body_of (drop c.start whole)))
    (offsets_told (body_of (drop c.start whole)) (header_size (drop c.start whole)) 0
    ++ images_left (driver_count (body_of (drop c.start whole))) (drop c.start whole)) whole
fmp_known c head whole d n s h none some ed en =
    let rest = drop c.start whole in
    let body = body_of rest in
    let hd = header_size rest in
    let b = fmp_begins c head whole s h in
    let r = passed (fmp_front_rows body hd) none in
    let list : list_end body ≤ length body = ltb-false _ _ r.1.1.0 in
    let n1 : number_at body 4 2 ≡ number_at head 4 2 = number_same 4 2 b (omega (arith, some)) in
    let n2 : number_at body 6 2 ≡ number_at head 6 2 = number_same 6 2 b (omega (arith, some)) in
    let stop : c.stop ≡ c.start + hd + 8 = omega (arith, s.stop, s.at, list) in
    let tested : IsLeft c.fate c.total c.capsule c.start c.at
    (structure FmpHead c.capsule 0 8 ∷ behind_fmp_head c.capsule body) (items_told body hd) whole =
    left_tested c.fate c.total c.capsule c.start c.at (hd + front_reach body)
    (structure FmpHead c.capsule 0 8 ∷ behind_fmp_head c.capsule body) (fmp_front_rows body hd)
    (items_told body hd) whole s.left none in (
      stop,
      record {
        front = s.front;
        header = s.header;
        image = s.image;
        list = list;
        drivers = ed ∙ sym n1;
        items = omega (arith, en, n1, n2);
      },
      left_passed c.fate c.total c.capsule c.start c.at (c.start + hd + 8) (structure FmpHead c.capsule 0 8)
          (behind_fmp_head c.capsule body) (items_told body hd) whole tested (omega (arith, s.at)),
    )
