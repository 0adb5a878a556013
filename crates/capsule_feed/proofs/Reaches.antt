-- How far the rows that are left read: none of them is told before the next stop.
use Rattle.std.proofs.Common.{◌≡◌, ℕ, zero, suc, ◌+◌, ◌*◌, ◌-◌, ◌<◌, ◌≤◌, min, Bool, true}
use Rattle.std.proofs.Common.{false, cond, List}
use Rattle.std.proofs.Common.{[], ◌∷◌, ◌++◌, length, drop, ltb, Option, Some, None, refl, sym}
use Rattle.std.proofs.Common.{ap, ◌∙◌}
use Rattle.std.proofs.Common.{inl, inr, arith, ◌==◌}
use Rattle.std.specs.Prelude.{option_map}
use Rattle.std.proofs.lemmas.Bool.{cond-true, cond-false, cases_lt, lt-ltb, le-ltb, cases_Bool}
use Rattle.std.proofs.lemmas.Bool.{ltb-false}
use Rattle.std.proofs.lemmas.Bool.Decides.{nat_tests}
use Rattle.cu_base.specs.Fields.{field, number_at}
use Rattle.cu_base.proofs.Fields.{length-field}
use Rattle.cu_base.specs.Refusals.{Row, first_refusal}
use Rattle.cu_base.proofs.Rows.{passed, first-none, first-some, first-parts, some-parts}
use Rattle.cu_base.proofs.Rows.{each_in, which_in}
use Rattle.fmp_headers.specs.CapsuleHeader.{header_size, image_size}
use Rattle.fmp_headers.specs.ImageHeader.{image_version, is_image_version, image_header_size}
use Rattle.capsule_grammar.specs.declared.refusal.Why.{Why}
use Rattle.capsule_grammar.specs.declared.refusal.Why.TheVariants.{TooManyCapsules}
use Rattle.capsule_grammar.specs.Accepted.{AreBounds, IsFront}
use Rattle.capsule_grammar.specs.Refusals.{capsule_rows, fmp_front_rows, offset_rows}
use Rattle.capsule_grammar.specs.Refusals.{image_rows}
use Rattle.capsule_grammar.specs.Refusals.{is_fmp_guid, body_of, driver_count, item_count}
use Rattle.capsule_grammar.specs.Refusals.{list_end}
use Rattle.capsule_grammar.specs.Refusals.{bound, item}
use Rattle.capsule_grammar.proofs.Offsets.{are_bounds}
use Rattle.capsule_grammar.proofs.Read.{is_front, bounds_rise}
use Rattle.capsule_feed.specs.Structures.{item_size}
use Rattle.capsule_feed.specs.Told.{Told, reading, told_from, told_at, told_behind}
use Rattle.capsule_feed.specs.Told.{capsule_told, capsule_all_told, body_told, fmp_front_told}
use Rattle.capsule_feed.specs.Told.{offset_told, offsets_told, image_told, images_told}
use Rattle.capsule_feed.specs.Told.{items_told}
use Rattle.capsule_feed.specs.Told.{front_reach, image_reach}
use Rattle.capsule_feed.proofs.ToldLemmas.{told_from_suc, told_from_zero}

-- ---- rows that all read up to one place

abbrev pub tell : ℕ → ℕ × Why → Told
tell reach r = record { reach = reach; at = r.0; why = r.1 }

pick : (reach : ℕ) (b : Bool) (here : ℕ × Why) (later : Option (ℕ × Why)) (other : Option Told)
    → other ≡ option_map (tell reach) later
    → cond b (Some (tell reach here)) other ≡ option_map (tell reach) (cond b (Some here) later)
pick reach true here later other e = refl
pick reach false here later other e = e

pub reading_is : (reach : ℕ) (rows : List (Row (ℕ × Why)))
    → first_refusal (reading reach rows) ≡ option_map (tell reach) (first_refusal rows)
reading_is reach [] = refl
reading_is reach (r ∷ rows) =
    pick reach r.holds r.refusal (first_refusal rows) (first_refusal (reading reach rows))
    (reading_is reach rows)

pub reading_none : (reach : ℕ) (rows : List (Row (ℕ × Why))) (more : List (Row Told))
    → first_refusal rows ≡ None → first_refusal (reading reach rows ++ more) ≡ first_refusal more
reading_none reach rows more e =
    first-none (reading reach rows) more (reading_is reach rows ∙ ap (option_map (tell reach)) e)

pub reading_some : (reach : ℕ) (rows : List (Row (ℕ × Why))) (more : List (Row Told)) (r : ℕ × Why)
    → first_refusal rows ≡ Some r → first_refusal (reading reach rows ++ more) ≡ Some (tell reach r)
reading_some reach rows more r e =
    first-some (reading reach rows) more (tell reach r)
    (reading_is reach rows ∙ ap (option_map (tell reach)) e)

none_left : (reach : ℕ) (o : Option (ℕ × Why)) → option_map (tell reach) o ≡ None → o ≡ None
none_left reach None e = refl
none_left reach (Some r) e = absurd cc

reach_is : (reach : ℕ) (o : Option (ℕ × Why)) (t : Told) → option_map (tell reach) o ≡ Some t
    → t.reach ≡ reach
reach_is reach None t e = absurd cc
reach_is reach (Some r) t e =
    let same : tell reach r ≡ t = cc in
    sym (ap (λ (u : Told). u.reach) same)

pub reading_passed : (reach : ℕ) (rows : List (Row (ℕ × Why)))
    → first_refusal (reading reach rows) ≡ None → first_refusal rows ≡ None
reading_passed reach rows e = none_left reach (first_refusal rows) (sym (reading_is reach rows) ∙ e)

pub reading_reach : (reach : ℕ) (rows : List (Row (ℕ × Why))) (t : Told)
    → first_refusal (reading reach rows) ≡ Some t → t.reach ≡ reach
reading_reach reach rows t e =
    reach_is reach (first_refusal rows) t (sym (reading_is reach rows) ∙ e)

-- ---- images

pub header_least : (version : ℕ) → 32 ≤ image_header_size version
header_least version = grind (arith, nat_tests)

reach_least : (b : Bool) (n h : ℕ) → 32 ≤ h → min 32 n ≤ min n (cond b h 32)
reach_least true n h le = omega (arith, le)
reach_least false n h le = omega arith

pub image_reach_least : (image : List ℕ) → min 32 (length image) ≤ image_reach image
image_reach_least image =
    reach_least (is_image_version (image_version image)) (length image)
    (image_header_size (image_version image)) (header_least (image_version image))

pub item_length : (body : List ℕ) (k : ℕ) → AreBounds body (length body) → k < item_count body
    → length (item body k) ≡ item_size body k
item_length body k are here =
    let within : bound body (k + 1) ≤ length body = are.within (k + 1) (omega (arith, here)) in
    let rise : bound body k ≤ bound body (k + 1) = are.rising k here in
    length-field body (bound body k) (bound body (k + 1) - bound body k)
    (omega (arith, within, rise))

pub images_low : (body : List ℕ) (at k : ℕ) (t : Told) → AreBounds body (length body)
    → k < item_count body → first_refusal (images_told body at k) ≡ Some t
    → at + bound body k + min 32 (item_size body k) ≤ t.reach
images_low body at k t are here e =
    let w = which_in (image_told body at) k (item_count body - k) t e in
    let j = w.0 in
    let reach : t.reach ≡ at + bound body j + image_reach (item body j) =
    reading_reach (at + bound body j + image_reach (item body j))
    (image_rows (item body j) (at + bound body j)) t w.3 in
    let high : j < item_count body = omega (arith, w.2, here) in
    let rise : bound body k ≤ bound body (k + 1) = are.rising k here in
    elim (cases_lt k j) [
      | inl later ↦
          let n = j - (k + 1) in
          let same : (k + 1) + n ≡ j = omega (arith, later) in
          let up : bound body (k + 1) ≤ bound body ((k + 1) + n) =
          bounds_rise body (k + 1) n are (omega (arith, high, later)) in
          let on : bound body (k + 1) ≤ bound body j = rw (← same) up in
          omega (arith, reach, on, rise)
      | inr first ↦
          let same : j ≡ k = omega (arith, first, w.1) in
          let long : length (item body k) ≡ item_size body k = item_length body k are here in
          let least : min 32 (length (item body k)) ≤ image_reach (item body k) =
          image_reach_least (item body k) in
          let there : t.reach ≡ at + bound body k + image_reach (item body k) = rw (← same) reach in
          omega (arith, there, long, least)
    ]

pub images_behind : (body : List ℕ) (at k : ℕ) (t : Told) → AreBounds body (length body)
    → first_refusal (images_told body at k) ≡ Some t → at + bound body k ≤ t.reach
images_behind body at k t are e =
    elim (cases_lt k (item_count body)) [
      | inl here ↦
          let low : at + bound body k + min 32 (item_size body k) ≤ t.reach =
          images_low body at k t are here e in
          omega (arith, low)
      | inr end ↦
          let w = which_in (image_told body at) k (item_count body - k) t e in
          absurd (omega (arith, w.1, w.2, end))
    ]

-- ---- offsets

pub offsets_low : (body : List ℕ) (at k : ℕ) (t : Told)
    → first_refusal (offsets_told body at k) ≡ Some t → at + 16 + 8 * k ≤ t.reach
offsets_low body at k t e =
    let w = which_in (offset_told body at) k (item_count body - k) t e in
    let reach : t.reach ≡ at + 16 + 8 * w.0 =
    reading_reach (at + 16 + 8 * w.0) (offset_rows body at w.0) t w.3 in
    omega (arith, reach, w.1)

-- the offsets and the images, where the first offsets are not refused
pub items_low : (body : List ℕ) (at k : ℕ) (t : Told) → list_end body ≤ length body
    → k ≤ item_count body
    → ((j : ℕ) → j < k → first_refusal (offset_rows body at j) ≡ None)
    → first_refusal (offsets_told body at k ++ images_told body at (driver_count body)) ≡ Some t
    → at + 8 + min (8 + 8 * k) (8 * item_count body) ≤ t.reach
items_low body at k t list le before e =
    elim (some-parts (offsets_told body at k) (images_told body at (driver_count body)) t e) [
      | inl here ↦ omega (arith, offsets_low body at k t here)
      | inr behind ↦
          let each : (j : ℕ) → j < item_count body → first_refusal (offset_rows body at j) ≡ None =
          λ j high. elim (cases_lt j k) [
            | inl old ↦ before j old
            | inr new ↦ reading_passed (at + 16 + 8 * j) (offset_rows body at j)
                (each_in (offset_told body at) k (item_count body - k) j behind.0 new
                (omega (arith, new, high)))
          ] in
          let are : AreBounds body (length body) = are_bounds body at list each in
          let low : at + bound body (driver_count body) ≤ t.reach =
          images_behind body at (driver_count body) t are behind.1 in
          let there : driver_count body ≤ item_count body = omega arith in
          let first : list_end body ≤ bound body (driver_count body) =
          are.behind (driver_count body) there in
          omega (arith, low, first)
    ]

-- ---- the FMP header, and what is behind it

front_least : (b : Bool) (n l : ℕ) → 8 ≤ l → min 8 n ≤ min n (cond b l 8)
front_least true n l le = omega (arith, le)
front_least false n l le = omega arith

pub fmp_low : (body : List ℕ) (at : ℕ) (t : Told)
    → first_refusal (fmp_front_told body at ++ items_told body at) ≡ Some t
    → at + min 8 (length body) ≤ t.reach
fmp_low body at t e =
    elim (some-parts (fmp_front_told body at) (items_told body at) t e) [
      | inl here ↦
          let reach : t.reach ≡ at + front_reach body =
          reading_reach (at + front_reach body) (fmp_front_rows body at) t here in
          let least : min 8 (length body) ≤ front_reach body =
          front_least (number_at body 0 4 == 1) (length body) (list_end body) (omega arith) in
          omega (arith, reach, least)
      | inr behind ↦
          let r = passed (fmp_front_rows body at)
          (reading_passed (at + front_reach body) (fmp_front_rows body at) behind.0) in
          let list : list_end body ≤ length body = ltb-false _ _ r.1.1.0 in
          let low : at + 8 + min (8 + 8 * 0) (8 * item_count body) ≤ t.reach =
          items_low body at 0 t list (omega arith) (λ j high. absurd (omega (arith, high))) behind.1 in
          omega (arith, low)
    ]

pub body_low : (rest : List ℕ) (t : Told) → first_refusal (body_told rest) ≡ Some t
    → header_size rest ≤ t.reach
body_low rest t e =
    let body = body_of rest in
    let h = header_size rest in
    let rows = fmp_front_told body h ++ items_told body h in
    elim (cases_Bool (is_fmp_guid (field rest 0 16))) [
      | inl fmp ↦
          let e2 : first_refusal rows ≡ Some t =
          ap first_refusal (sym (cond-true (is_fmp_guid (field rest 0 16)) rows [] fmp)) ∙ e in
          let low : h + min 8 (length body) ≤ t.reach = fmp_low body h t e2 in
          omega (arith, low)
      | inr other ↦
          let e2 : None ≡ Some t =
          ap first_refusal (sym (cond-false (is_fmp_guid (field rest 0 16)) rows [] other)) ∙ e in
          absurd cc
    ]

pub header_low : (rest : List ℕ) (t : Told) → first_refusal (capsule_all_told rest) ≡ Some t
    → min 28 (length rest) ≤ t.reach
header_low rest t e =
    elim (some-parts (capsule_told rest) (body_told rest) t e) [
      | inl here ↦
          let reach : t.reach ≡ min 28 (length rest) =
          reading_reach (min 28 (length rest)) (capsule_rows rest) t here in
          omega (arith, reach)
      | inr behind ↦
          let front : IsFront rest =
          is_front rest (reading_passed (min 28 (length rest)) (capsule_rows rest) behind.0) in
          let low : header_size rest ≤ t.reach = body_low rest t behind.1 in
          omega (arith, front.low, low)
    ]

-- where none is told, the capsule has its header
pub header_none : (rest : List ℕ) → first_refusal (capsule_all_told rest) ≡ None
    → min 28 (length rest) ≤ image_size rest
header_none rest none =
    let parts = first-parts (capsule_told rest) (body_told rest) none in
    let front : IsFront rest =
    is_front rest (reading_passed (min 28 (length rest)) (capsule_rows rest) parts.0) in
    omega (arith, front.low, front.within)

-- ---- capsules back to back

pub told_at_low : (more at low : ℕ) (rest : List ℕ) (r : Option Told) (t : Told)
    → ((next : ℕ) (left : List ℕ) → told_from more next left ≡ Some t → next ≤ t.reach)
    → ((u : Told) → r ≡ Some u → low ≤ u.reach) → (r ≡ None → low ≤ image_size rest)
    → told_at more at rest r ≡ Some t → at + low ≤ t.reach
told_at_low more at low rest (Some u) t later here none e =
    let same : told_behind at u ≡ t = cc in
    let reach : at + u.reach ≡ t.reach = ap (λ (v : Told). v.reach) same in
    let le : low ≤ u.reach = here u refl in
    omega (arith, reach, le)
told_at_low more at low rest None t later here none e =
    let n = image_size rest in
    let le : low ≤ n = none refl in
    elim (cases_lt n (length rest)) [
      | inl on ↦
          let next : told_from more (at + n) (drop n rest) ≡ Some t =
          sym (cond-true (ltb n (length rest)) (told_from more (at + n) (drop n rest)) None
          (lt-ltb n (length rest) on)) ∙ e in
          omega (arith, later (at + n) (drop n rest) next, le)
      | inr end ↦
          let no : None ≡ Some t =
          sym (cond-false (ltb n (length rest)) (told_from more (at + n) (drop n rest)) None
          (le-ltb n (length rest) end)) ∙ e in
          absurd cc
    ]

pub told_from_low : (more at : ℕ) (rest : List ℕ) (t : Told) → told_from more at rest ≡ Some t
    → at ≤ t.reach
told_from_low zero at rest t e =
    let some : Some (record { reach = at; at = at; why = TooManyCapsules }) ≡ Some t =
    sym (told_from_zero at rest) ∙ e in
    let same : record { reach = at; at = at; why = TooManyCapsules } ≡ t = cc in
    let reach : at ≡ t.reach = ap (λ (v : Told). v.reach) same in
    omega (arith, reach)
told_from_low (suc more) at rest t e =
    let low : at + 0 ≤ t.reach =
    told_at_low more at 0 rest (first_refusal (capsule_all_told rest)) t
    (λ next left e2. told_from_low more next left t e2) (λ u same. omega arith) (λ same. omega arith)
    (sym (told_from_suc more at rest) ∙ e) in
    omega (arith, low)
