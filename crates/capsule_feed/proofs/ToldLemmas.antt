-- What is told of a whole is its refusal.
use Rattle.std.proofs.Common.{◌≡◌, ℕ, zero, suc, ◌+◌, ◌*◌, ◌-◌, ◌<◌, Bool, true, false, cond}
use Rattle.std.proofs.Common.{List, [], ◌∷◌}
use Rattle.std.proofs.Common.{◌++◌, length, min, drop, map, ltb, Option, Some, None, refl, sym}
use Rattle.std.proofs.Common.{ap, ◌∙◌}
use Rattle.std.proofs.Common.{inl, inr, arith}
use Rattle.std.specs.Prelude.{option_map}
use Rattle.std.specs.List.{flat_map, range_with_len}
use Rattle.std.proofs.lemmas.List.{map-append, length_push, length-drop, drop-drop}
use Rattle.std.proofs.lemmas.Bool.{cond-true, cond-false, cases_lt, lt-ltb, le-ltb}
use Rattle.cu_base.specs.Bytes.{IsBytes}
use Rattle.cu_base.specs.Fields.{field}
use Rattle.cu_base.specs.Refusals.{Row, row, first_refusal}
use Rattle.cu_base.proofs.Fields.{IsBytes-drop}
use Rattle.fmp_headers.specs.CapsuleHeader.{header_size, image_size}
use Rattle.capsule_grammar.specs.declared.refusal.Why.{Why}
use Rattle.capsule_grammar.specs.declared.refusal.Why.TheVariants.{TooManyCapsules}
use Rattle.capsule_grammar.specs.declared.value.Capsule.{Capsule}
use Rattle.capsule_grammar.specs.Refusals.{refusal, rows, capsule_rows, fmp_front_rows}
use Rattle.capsule_grammar.specs.Refusals.{offset_rows}
use Rattle.capsule_grammar.specs.Refusals.{image_rows, all_offset_rows, all_image_rows}
use Rattle.capsule_grammar.specs.Refusals.{fmp_rows}
use Rattle.capsule_grammar.specs.Refusals.{is_fmp_guid, body_of, driver_count, image_count}
use Rattle.capsule_grammar.specs.Refusals.{item_count}
use Rattle.capsule_grammar.specs.Refusals.{bound, item}
use Rattle.capsule_grammar.specs.Reading.{capsule_of}
use Rattle.capsule_grammar.specs.Fronts.{IsAccepted}
use Rattle.capsule_grammar.proofs.BackLemmas.{Before, before_grown, spells_all, one_more}
use Rattle.capsule_grammar.proofs.BackLemmas.{refused_rest}
use Rattle.capsule_grammar.proofs.FoundLemmas.{accepted_or_refused, both}
use Rattle.capsule_feed.specs.Told.{Told, reading, capsule_told, fmp_front_told, offset_told}
use Rattle.capsule_feed.specs.Told.{offsets_told, image_told, images_told, items_told}
use Rattle.capsule_feed.specs.Told.{body_told}
use Rattle.capsule_feed.specs.Told.{front_reach, image_reach, capsule_all_told, told_from}
use Rattle.capsule_feed.specs.Told.{told_of}
use Rattle.capsule_feed.specs.Told.{told_at, IsToldRight}

-- ---- the tables are the same, but for the places where they are told

-- a row without the place where it is told
abbrev pub untold : Row Told → Row (ℕ × Why)
untold r = row r.holds (r.refusal.at, r.refusal.why)

abbrev pub pair : Told → ℕ × Why
pair t = (t.at, t.why)

first_row : (b : Bool) (t : Told) (later : Option Told) (other : Option (ℕ × Why))
    → option_map pair later ≡ other
    → option_map pair (cond b (Some t) later) ≡ cond b (Some (t.at, t.why)) other
first_row true t later other e = refl
first_row false t later other e = e

pub first_same : (told : List (Row Told)) → option_map pair (first_refusal told)
    ≡ first_refusal (map untold told)
first_same [] = refl
first_same (r ∷ told) =
    first_row r.holds r.refusal (first_refusal told) (first_refusal (map untold told)) (first_same told)

pub reading_same : (reach : ℕ) (rows : List (Row (ℕ × Why))) → map untold (reading reach rows) ≡ rows
reading_same reach [] = refl
reading_same reach (r ∷ rows) = ap (λ (l : List (Row (ℕ × Why))). r ∷ l) (reading_same reach rows)

range_same : (f : ℕ → List (Row Told)) (g : ℕ → List (Row (ℕ × Why))) (a n : ℕ)
    → ((k : ℕ) → map untold (f k) ≡ g k)
    → map untold (flat_map f (range_with_len a n)) ≡ flat_map g (range_with_len a n)
range_same f g a zero h = refl
range_same f g a (suc n) h =
    map-append untold (f a) (flat_map f (range_with_len (a + 1) n))
    ∙ rw (h a, range_same f g (a + 1) n h) refl

offsets_same : (body : List ℕ) (at : ℕ) → map untold (offsets_told body at 0) ≡ all_offset_rows body at
offsets_same body at =
    let e : item_count body - 0 ≡ item_count body = omega arith in
    rw e (range_same (offset_told body at) (offset_rows body at) 0 (item_count body)
    (λ k. reading_same (at + 16 + 8 * k) (offset_rows body at k)))

images_same : (body : List ℕ) (at : ℕ) → map untold (images_told body at (driver_count body))
    ≡ all_image_rows body at
images_same body at =
    let e : item_count body - driver_count body ≡ image_count body = omega arith in
    rw e (range_same (image_told body at) (λ k. image_rows (item body k) (at + bound body k))
    (driver_count body) (image_count body) (λ k. reading_same (at + bound body k + image_reach (item body k))
    (image_rows (item body k) (at + bound body k))))

both_rows : {a a' b b' : List (Row (ℕ × Why))} → a ≡ a' → b ≡ b' → a ++ b ≡ a' ++ b'
both_rows {a} {a'} {b} {b'} ea eb = rw (ea, eb) refl

fmp_same : (body : List ℕ) (at : ℕ) → map untold (fmp_front_told body at ++ items_told body at)
    ≡ fmp_rows body at
fmp_same body at =
    map-append untold (fmp_front_told body at) (items_told body at)
    ∙ both_rows (reading_same (at + front_reach body) (fmp_front_rows body at))
    (map-append untold (offsets_told body at 0) (images_told body at (driver_count body))
    ∙ both_rows (offsets_same body at) (images_same body at))

body_same : (b : Bool) (body : List ℕ) (at : ℕ)
    → map untold (cond b (fmp_front_told body at ++ items_told body at) [])
    ≡ cond b (fmp_rows body at) []
body_same true body at = fmp_same body at
body_same false body at = refl

all_same : (rest : List ℕ) → map untold (capsule_all_told rest) ≡ rows rest
all_same rest =
    map-append untold (capsule_told rest) (body_told rest)
    ∙ both_rows (reading_same (min 28 (length rest)) (capsule_rows rest))
    (body_same (is_fmp_guid (field rest 0 16)) (body_of rest) (header_size rest))

pub told_same : (rest : List ℕ) → option_map pair (first_refusal (capsule_all_told rest)) ≡ refusal rest
told_same rest = first_same (capsule_all_told rest) ∙ ap first_refusal (all_same rest)

-- ---- capsules back to back

pub told_from_suc : (more at : ℕ) (rest : List ℕ) → told_from (suc more) at rest
    ≡ told_at more at rest (first_refusal (capsule_all_told rest))
unfolding told_from
told_from_suc more at rest = refl

pub told_from_zero : (at : ℕ) (rest : List ℕ) → told_from zero at rest
    ≡ Some (record { reach = at; at = at; why = TooManyCapsules })
unfolding told_from
told_from_zero at rest = refl

-- what is to be shown of the capsules behind
abbrev Later : ℕ → List ℕ → Type 0
Later more whole =
    (cs : List Capsule) (at : ℕ) → Before cs at whole → length cs + more ≡ 8
    → (0 < length cs → at < length whole) → IsToldRight whole (told_from more at (drop at whole))

-- the capsule at this place is accepted
told_accepted : (more : ℕ) (cs : List Capsule) (at : ℕ) (whole : List ℕ) → IsBytes whole
    → Before cs at whole → length cs + suc more ≡ 8 → IsAccepted (drop at whole)
    → Later more whole → IsToldRight whole (told_at more at (drop at whole) None)
told_accepted more cs at whole is b count ok later =
    let rest = drop at whole in
    let c = capsule_of rest in
    let n = image_size rest in
    let next : Before (cs ++ c ∷ []) (at + n) whole =
    before_grown cs c at n whole b ok.begins.capsule ok.begins.size ok.begins.spelled in
    let counted : length (cs ++ c ∷ []) ≡ length cs + 1 = length_push cs c in
    let long : length rest ≡ length whole - at = length-drop at whole in
    elim (cases_lt n (length rest)) [
      | inl more_bytes ↦
          let same : drop n rest ≡ drop (at + n) whole = drop-drop n at whole in
          rw (
            cond-true (ltb n (length rest)) (told_from more (at + n) (drop n rest)) None
                (lt-ltb n (length rest) more_bytes),
            same,
          )
          (later (cs ++ c ∷ []) (at + n) next (omega (arith, counted, count))
          (λ some. omega (arith, more_bytes, long)))
      | inr end ↦
          rw (cond-false (ltb n (length rest)) (told_from more (at + n) (drop n rest)) None
          (le-ltb n (length rest) end)) (
            cs ++ c ∷ [],
            spells_all (cs ++ c ∷ []) (at + n) whole next (omega (arith, counted))
                (omega (arith, counted, count)) (omega (arith, next.within, end, long, b.within)),
          )
    ]

told_step : (more : ℕ) (cs : List Capsule) (at : ℕ) (whole : List ℕ) → IsBytes whole
    → Before cs at whole → length cs + suc more ≡ 8 → (0 < length cs → at < length whole)
    → Later more whole → (r : Option Told)
    → first_refusal (capsule_all_told (drop at whole)) ≡ r
    → IsToldRight whole (told_at more at (drop at whole) r)
told_step more cs at whole is b count some later (Some t) e =
    refused_rest cs at t.at (at + t.at) t.why t.why whole b (omega (arith, count)) some
    (sym (told_same (drop at whole)) ∙ ap (option_map pair) e) (omega arith) refl
told_step more cs at whole is b count some later None e =
    let none : refusal (drop at whole) ≡ None =
    sym (told_same (drop at whole)) ∙ ap (option_map pair) e in
    elim (accepted_or_refused (drop at whole) (IsBytes-drop at whole is)) [
      | inl ok ↦ told_accepted more cs at whole is b count ok later
      | inr bad ↦ absurd (both (refusal (drop at whole)) (bad.at, bad.why) bad.refused none)
    ]

pub told_right : (more : ℕ) (whole : List ℕ) → IsBytes whole → Later more whole
told_right zero whole is = λ cs at b count some.
    rw (told_from_zero at (drop at whole))
    (one_more cs at whole b (omega (arith, count)) (some (omega (arith, count))))
told_right (suc more) whole is = λ cs at b count some.
    rw (told_from_suc more at (drop at whole))
    (told_step more cs at whole is b count some (told_right more whole is)
    (first_refusal (capsule_all_told (drop at whole))) refl)

pub told_is_right : (whole : List ℕ) → IsBytes whole → IsToldRight whole (told_of whole)
told_is_right whole is =
    told_right 8 whole is [] 0 (record { each = tt; front = refl; within = omega arith }) refl
    (λ some. absurd (omega (arith, some)))
