-- The spans of an accepted whole are the whole.
use Rattle.std.proofs.Common.{◌≡◌, ℕ, zero, suc, ◌+◌, ◌*◌, ◌-◌, ◌≤◌, min, max}
use Rattle.std.proofs.Common.{List, [], ◌∷◌, ◌++◌, length, drop, ltb, Option, Some, None, refl}
use Rattle.std.proofs.Common.{sym, ap}
use Rattle.std.proofs.Common.{◌∙◌, inl, inr, arith}
use Rattle.std.specs.Prelude.{option_map}
use Rattle.std.specs.List.{flat_map, range_with_len}
use Rattle.std.proofs.lemmas.List.{append-nil, length-drop, take_all}
use Rattle.std.proofs.lemmas.Grind.{flat_map-append}
use Rattle.std.proofs.lemmas.Bool.{cond-true, cond-false, cases_lt, lt-ltb, le-ltb, cases_Bool}
use Rattle.cu_base.specs.Bytes.{IsBytes}
use Rattle.cu_base.specs.Fields.{field, number_at}
use Rattle.cu_base.proofs.Fields.{length-field}
use Rattle.cu_base.specs.Refusals.{first_refusal}
use Rattle.cu_base.proofs.Rows.{first-parts}
use Rattle.fmp_headers.specs.CapsuleHeader.{header_size, image_size}
use Rattle.capsule_grammar.specs.Accepted.{IsFront}
use Rattle.capsule_grammar.specs.Refusals.{is_fmp_guid, body_of, item_count, driver_count}
use Rattle.capsule_grammar.specs.Refusals.{list_end}
use Rattle.fmp_headers.specs.ImageHeader.{image_version, image_header_size}
use Rattle.capsule_grammar.specs.Refusals.{item, image_parts_size, bound, refusal, capsule_rows}
use Rattle.capsule_grammar.specs.Refusals.{body_rows}
use Rattle.capsule_grammar.proofs.Offsets.{bound_ends}
use Rattle.capsule_grammar.proofs.Read.{is_front}
use Rattle.capsule_grammar.proofs.Lists.{field_split}
use Rattle.capsule_feed.specs.Structures.{Structure, placed, within, cut_to, capsules_from}
use Rattle.capsule_feed.specs.Structures.{capsule_structures, body_structures, behind_fmp_head}
use Rattle.capsule_feed.specs.Structures.{items_from, item_structures, image_parts, item_size}
use Rattle.capsule_feed.specs.Structures.{structure, size_of}
use Rattle.capsule_feed.specs.Told.{Told, told_of, told_from, told_at, capsule_all_told, joined}
use Rattle.capsule_feed.specs.Told.{spans_of}
use Rattle.capsule_feed.specs.Told.{total_length}
use Rattle.capsule_feed.proofs.ToldLemmas.{told_same, pair, told_from_suc}
use Rattle.capsule_feed.specs.declared.span.Span.{Span}
use Rattle.capsule_feed.specs.declared.span.SpanKind.TheVariants as kinds

-- ---- spans that follow one another, up to a place

pub size-append : (xs ys : List Structure) → size_of (xs ++ ys) ≡ size_of xs + size_of ys
size-append [] ys = omega arith
size-append (s ∷ xs) ys =
    let ih : size_of (xs ++ ys) ≡ size_of xs + size_of ys = size-append xs ys in
    omega (arith, ih)

total-append : (xs ys : List Span) → total_length (xs ++ ys) ≡ total_length xs + total_length ys
total-append [] ys = omega arith
total-append (s ∷ xs) ys =
    let ih : total_length (xs ++ ys) ≡ total_length xs + total_length ys = total-append xs ys in
    omega (arith, ih)

-- so many bytes of a structure at a place lie before another
abbrev pub up_to : ℕ → ℕ → ℕ → ℕ
up_to to at size = min to (at + size) - at

cut_joined : (whole : List ℕ) (to : ℕ) (s : Span) → joined whole (cut_to 0 to s)
    ≡ field whole s.at (up_to to s.at s.length)
cut_joined whole to s =
    let from : max 0 s.at ≡ s.at = omega arith in
    elim (cases_lt s.at (min to (s.at + s.length))) [
      | inl some ↦ rw (from, lt-ltb s.at (min to (s.at + s.length)) some) (append-nil _)
      | inr none ↦
          let nothing : up_to to s.at s.length ≡ 0 = omega (arith, none) in
          rw (from, le-ltb s.at (min to (s.at + s.length)) none, nothing) refl
    ]

cut_size : (to : ℕ) (s : Span) → total_length (cut_to 0 to s) ≡ up_to to s.at s.length
cut_size to s =
    let from : max 0 s.at ≡ s.at = omega arith in
    elim (cases_lt s.at (min to (s.at + s.length))) [
      | inl some ↦ rw (from, lt-ltb s.at (min to (s.at + s.length)) some) (omega arith)
      | inr none ↦ rw (from, le-ltb s.at (min to (s.at + s.length)) none) (omega (arith, none))
    ]

placed_joined : (whole : List ℕ) (to at : ℕ) (ss : List Structure)
    → joined whole (within 0 to (placed at ss)) ≡ field whole at (up_to to at (size_of ss))
placed_joined whole to at [] =
    let nothing : up_to to at 0 ≡ 0 = omega arith in
    rw nothing refl
placed_joined whole to at (s ∷ ss) =
    let here : Span =
    record { kind = s.kind; capsule = s.capsule; item = s.item; at = at; length = s.size } in
    let next = at + s.size in
    let n = up_to to at s.size in
    let m = up_to to next (size_of ss) in
    let parts : joined whole (cut_to 0 to here ++ within 0 to (placed next ss))
    ≡ field whole at n ++ field whole next m =
    flat_map-append (λ x. field whole x.at x.length) (cut_to 0 to here)
    (within 0 to (placed next ss))
    ∙ rw (cut_joined whole to here, placed_joined whole to next ss) refl in
    parts ∙ elim (cases_lt to next) [
      | inl cut ↦
          let none : m ≡ 0 = omega (arith, cut) in
          let same : up_to to at (s.size + size_of ss) ≡ n = omega (arith, cut) in
          ap (λ (k : ℕ). field whole at n ++ field whole next k) none
          ∙ append-nil (field whole at n) ∙ ap (field whole at) (sym same)
      | inr all ↦
          let full : n ≡ s.size = omega (arith, all) in
          let sum : up_to to at (s.size + size_of ss) ≡ s.size + m = omega (arith, all) in
          ap (λ (k : ℕ). field whole at k ++ field whole next m) full
          ∙ field_split whole at s.size m ∙ ap (field whole at) (sym sum)
    ]

placed_size : (to at : ℕ) (ss : List Structure)
    → total_length (within 0 to (placed at ss)) ≡ up_to to at (size_of ss)
placed_size to at [] = omega arith
placed_size to at (s ∷ ss) =
    let here : Span =
    record { kind = s.kind; capsule = s.capsule; item = s.item; at = at; length = s.size } in
    let next = at + s.size in
    let ih : total_length (within 0 to (placed next ss)) ≡ up_to to next (size_of ss) =
    placed_size to next ss in
    let first : total_length (cut_to 0 to here) ≡ up_to to at s.size = cut_size to here in
    let sum : up_to to at s.size + up_to to next (size_of ss) ≡ up_to to at (s.size + size_of ss) =
    omega arith in
    total-append (cut_to 0 to here) (within 0 to (placed next ss))
    ∙ ap (λ (k : ℕ). k + total_length (within 0 to (placed next ss))) first
    ∙ ap (λ (k : ℕ). up_to to at s.size + k) ih ∙ sum

-- ---- the structures of an accepted capsule have its bytes

item_least : (c : ℕ) (body : List ℕ) (k : ℕ) → item_size body k ≤ size_of (item_structures c body k)
item_least c body k =
    let driver = structure kinds.Driver c k (item_size body k) ∷ [] in
    let version = image_version (item body k) in
    let image = structure kinds.ImageHead c k (image_header_size version) ∷ image_parts c body k in
    elim (cases_Bool (ltb k (driver_count body))) [
      | inl has ↦
          let e : size_of (item_structures c body k) ≡ item_size body k + 0 =
          ap size_of (cond-true (ltb k (driver_count body)) driver image has) in
          omega (arith, e)
      | inr other ↦
          let e : size_of (item_structures c body k) ≡ image_header_size version
          + (number_at (item body k) 24 4 + (number_at (item body k) 28 4
          + ((item_size body k - image_parts_size (item body k)) + 0))) =
          ap size_of (cond-false (ltb k (driver_count body)) driver image other) in
          let parts : image_parts_size (item body k) ≡ image_header_size version
          + number_at (item body k) 24 4 + number_at (item body k) 28 4 = refl in
          omega (arith, e, parts)
    ]

items_least : (c : ℕ) (body : List ℕ) (k n : ℕ) → bound body (k + n)
    ≤ bound body k + size_of (flat_map (item_structures c body) (range_with_len k n))
items_least c body k zero =
    let same : k + 0 ≡ k = omega arith in
    rw same (omega arith)
items_least c body k (suc n) =
    let tail = flat_map (item_structures c body) (range_with_len (k + 1) n) in
    let same : k + 1 + n ≡ k + suc n = omega arith in
    let later : bound body (k + suc n) ≤ bound body (k + 1) + size_of tail =
    rw same at (items_least c body (k + 1) n) in
    let sum : size_of (item_structures c body k ++ tail)
    ≡ size_of (item_structures c body k) + size_of tail =
    size-append (item_structures c body k) tail in
    omega (arith, later, sum, item_least c body k)

fmp_least : (c : ℕ) (body : List ℕ) → length body
    ≤ size_of (structure kinds.FmpHead c 0 8 ∷ behind_fmp_head c body)
fmp_least c body =
    let n = item_count body - 0 in
    let items : bound body (0 + n) ≤ bound body 0 + size_of (items_from c body 0) =
    items_least c body 0 n in
    let end : bound body (0 + n) ≡ length body = bound_ends body (0 + n) (omega arith) in
    let e : size_of (structure kinds.FmpHead c 0 8 ∷ behind_fmp_head c body)
    ≡ 8 + (8 * item_count body + ((bound body 0 - list_end body) + size_of (items_from c body 0))) =
    refl in
    omega (arith, items, end, e)

body_least : (c : ℕ) (rest : List ℕ) → IsFront rest
    → image_size rest - header_size rest ≤ size_of (body_structures c rest)
body_least c rest front =
    let long : length (body_of rest) ≡ image_size rest - header_size rest =
    length-field rest (header_size rest) (image_size rest - header_size rest)
    (omega (arith, front.within, front.there)) in
    let fmp_body = structure kinds.FmpHead c 0 8 ∷ behind_fmp_head c (body_of rest) in
    let other_body = structure kinds.Other c 0 (image_size rest - header_size rest) ∷ [] in
    elim (cases_Bool (is_fmp_guid (field rest 0 16))) [
      | inl fmp ↦
          let e : size_of (body_structures c rest) ≡ size_of fmp_body =
          ap size_of (cond-true (is_fmp_guid (field rest 0 16)) fmp_body other_body fmp) in
          omega (arith, e, long, fmp_least c (body_of rest))
      | inr other ↦
          let e : size_of (body_structures c rest) ≡ (image_size rest - header_size rest) + 0 =
          ap size_of (cond-false (is_fmp_guid (field rest 0 16)) fmp_body other_body other) in
          omega (arith, e)
    ]

capsule_least : (c : ℕ) (rest : List ℕ) → IsFront rest
    → image_size rest ≤ size_of (capsule_structures c rest)
capsule_least c rest front =
    let e : size_of (capsule_structures c rest)
    ≡ 28 + ((header_size rest - 28) + size_of (body_structures c rest)) = refl in
    omega (arith, e, body_least c rest front, front.low, front.within)

-- ---- the whole

pub capsules_then : (more c : ℕ) (rest : List ℕ) → capsules_from (suc more) c rest
    ≡ capsule_structures c rest ++ capsules_from more (c + 1) (drop (image_size rest) rest)
unfolding capsules_from
capsules_then more c rest = refl

none_zero : (at : ℕ) (rest : List ℕ) → told_from zero at rest ≡ None → ⊥
unfolding told_from
none_zero at rest e = absurd cc

-- what is behind the first capsule
behind_least : (more c at : ℕ) (rest : List ℕ) (r : Option Told)
    → first_refusal (capsule_all_told rest) ≡ r → told_at more at rest r ≡ None
    → ((next : ℕ) (left : List ℕ) → told_from more next left ≡ None
    → length left ≤ size_of (capsules_from more (c + 1) left))
    → length rest ≤ size_of (capsule_structures c rest)
    + size_of (capsules_from more (c + 1) (drop (image_size rest) rest))
behind_least more c at rest (Some t) e none later = absurd cc
behind_least more c at rest None e none later =
    let n = image_size rest in
    let accepted : refusal rest ≡ None = sym (told_same rest) ∙ ap (option_map pair) e in
    let front : IsFront rest =
    is_front rest (first-parts (capsule_rows rest) (body_rows rest) accepted).0 in
    let least = capsule_least c rest front in
    let long : length (drop n rest) ≡ length rest - n = length-drop n rest in
    elim (cases_lt n (length rest)) [
      | inl more_bytes ↦
          let next : told_from more (at + n) (drop n rest) ≡ None =
          sym (cond-true (ltb n (length rest)) (told_from more (at + n) (drop n rest)) None
          (lt-ltb n (length rest) more_bytes)) ∙ none in
          omega (arith, least, long, later (at + n) (drop n rest) next)
      | inr end ↦ omega (arith, least, end)
    ]

all_least : (more c at : ℕ) (rest : List ℕ) → told_from more at rest ≡ None
    → length rest ≤ size_of (capsules_from more c rest)
all_least zero c at rest none = absurd (none_zero at rest none)
all_least (suc more) c at rest none =
    let tail = capsules_from more (c + 1) (drop (image_size rest) rest) in
    let sum : size_of (capsule_structures c rest ++ tail)
    ≡ size_of (capsule_structures c rest) + size_of tail =
    size-append (capsule_structures c rest) tail in
    rw (capsules_then more c rest)
    (omega (
      arith,
      sum,
      behind_least more c at rest (first_refusal (capsule_all_told rest)) refl
          (sym (told_from_suc more at rest) ∙ none)
          (λ next left e. all_least more (c + 1) next left e),
    ))

pub whole_joined : (whole : List ℕ) → IsBytes whole → told_of whole ≡ None
    → joined whole (spans_of whole) ≡ whole
whole_joined whole is none =
    let all : length whole ≤ size_of (capsules_from 8 0 whole) = all_least 8 0 0 whole none in
    let n : up_to (length whole) 0 (size_of (capsules_from 8 0 whole)) ≡ length whole =
    omega (arith, all) in
    rw none
    (placed_joined whole (length whole) 0 (capsules_from 8 0 whole)
    ∙ ap (field whole 0) n ∙ take_all (length whole) whole (omega arith))

pub whole_size : (whole : List ℕ) → IsBytes whole → told_of whole ≡ None
    → total_length (spans_of whole) ≡ length whole
whole_size whole is none =
    let all : length whole ≤ size_of (capsules_from 8 0 whole) = all_least 8 0 0 whole none in
    rw none
    (placed_size (length whole) 0 (capsules_from 8 0 whole) ∙ omega (arith, all))
