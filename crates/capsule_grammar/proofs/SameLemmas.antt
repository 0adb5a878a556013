-- A capsule that a rebuild leaves as it is.
use Rattle.std.proofs.Common.{◌≡◌, ℕ, zero, suc, ◌+◌, ◌*◌, ◌-◌, ◌≤◌, true, List, [], ◌∷◌, ◌++◌}
use Rattle.std.proofs.Common.{length, take, map, None, refl, sym, ap, ◌∙◌, inl, inr, arith}
use Rattle.std.proofs.Common.{length-append}
use Rattle.std.specs.List.{range_with_len, concat, flat_map}
use Rattle.std.proofs.lemmas.Bool.{cases_lt, cond-true}
use Rattle.std.proofs.lemmas.List.{take_all, length-take}
use Rattle.std.proofs.lemmas.List.FromFn.{length-map-range_with_len}
use Rattle.cu_base.specs.Fields.{bytes_of, field, number_at}
use Rattle.cu_base.specs.Bytes.{IsBytes}
use Rattle.fmp_headers.specs.FmpHeader.{fmp_header_bytes}
use Rattle.fmp_headers.specs.CapsuleHeader.{header_size, image_size, capsule_header_bytes}
use Rattle.cu_base.proofs.Fields.{IsBytes-field, length-field}
use Rattle.capsule_grammar.specs.Accepted.{IsFmpBody}
use Rattle.capsule_grammar.specs.Reading.{image_of, fmp_of, capsule_of}
use Rattle.capsule_grammar.specs.Rebuilt.{emptied_fmp, emptied, with_body, kept, kept_items}
use Rattle.capsule_grammar.specs.Refusals.{driver_count, image_count, item_count, list_end, item}
use Rattle.capsule_grammar.specs.Refusals.{image_parts_size, is_fmp_guid, body_of, refusal}
use Rattle.capsule_grammar.specs.Spelling.{item_bytes, fmp_bytes, offsets, first_place, spelling}
use Rattle.capsule_grammar.specs.declared.value.Body.{Body}
use Rattle.capsule_grammar.specs.declared.value.Body.TheVariants.{Other, Fmp}
use Rattle.capsule_grammar.specs.Values.{FmpValue}
use Rattle.capsule_grammar.proofs.Read.{fmp_spelled, items_read, read_is_spelled, front_of}
use Rattle.capsule_grammar.proofs.Read.{fmp_case}
use Rattle.capsule_grammar.proofs.RebuiltLemmas.{driver_kept, kept_image, kept_within, same_parts}
use Rattle.capsule_grammar.proofs.RebuiltLemmas.{fmp_kept, fmp_size_kept, emptied_is}
use Rattle.capsule_grammar.proofs.SizeLemmas.{length-fmp_bytes}
use Rattle.capsule_grammar.proofs.Spelled.{spelling_length}

-- nothing is dropped of an item that is kept in its length
kept_whole : (body : List ℕ) (k : ℕ) → length (item body k) ≤ length (kept body k)
    → kept body k ≡ item body k
kept_whole body k le =
    elim (cases_lt k (driver_count body)) [
      | inl low ↦ sym (driver_kept body k low)
      | inr high ↦
          let cut = kept_image body k high in
          cut ∙ take_all (image_parts_size (item body k)) (item body k)
          (omega (
            arith,
            le,
            ap length cut,
            length-take (image_parts_size (item body k)) (item body k),
          ))
    ]

first_and_rest : (f : ℕ → List ℕ) (a n : ℕ)
    → length (concat (map f (range_with_len a (suc n)))) ≡ length (f a) + length
    (concat (map f (range_with_len (a + 1) n)))
first_and_rest f a n = length-append (f a) (concat (map f (range_with_len (a + 1) n)))

no_more : (body : List ℕ) (a n : ℕ)
    → length (concat (map (kept body) (range_with_len a n))) ≤ length
    (concat (map (item body) (range_with_len a n)))
no_more body a zero = omega arith
no_more body a (suc n) = omega (
  arith,
  kept_within body a,
  no_more body (a + 1) n,
  first_and_rest (kept body) a n,
  first_and_rest (item body) a n,
)

both : (x x' : List ℕ) (xs xs' : List (List ℕ)) → x ≡ x' → xs ≡ xs' → x ∷ xs ≡ x' ∷ xs'
both x x' xs xs' e es = rw (e, es) refl

-- items that are kept in their lengths
all_kept : (body : List ℕ) (a n : ℕ)
    → length (concat (map (item body) (range_with_len a n))) ≤ length
    (concat (map (kept body) (range_with_len a n)))
    → map (kept body) (range_with_len a n) ≡ map (item body) (range_with_len a n)
all_kept body a zero le = refl
all_kept body a (suc n) le =
    let kept_long = first_and_rest (kept body) a n in
    let item_long = first_and_rest (item body) a n in
    both (kept body a) (item body a) (map (kept body) (range_with_len (a + 1) n))
    (map (item body) (range_with_len (a + 1) n))
    (kept_whole body a (omega (arith, le, kept_long, item_long, no_more body (a + 1) n)))
    (all_kept body (a + 1) n (omega (arith, le, kept_long, item_long, kept_within body a)))

empty_is : (l : List ℕ) → length l ≡ 0 → l ≡ []
empty_is [] e = refl
empty_is (x ∷ xs) e = absurd (omega arith)

-- a body of which a rebuild keeps the length
pub body_same : (body : List ℕ) → IsBytes body → IsFmpBody body
    → list_end body + length (concat (kept_items body)) ≡ length body
    → fmp_bytes (emptied_fmp (fmp_of body)) ≡ body
body_same body is good e =
    let v = fmp_of body in
    let n = item_count body in
    let read : item_bytes v ≡ map (item body) (range_with_len 0 n) = items_read body is good in
    let spelled : fmp_bytes v ≡ body = fmp_spelled body is good in
    let count : length (item_bytes v) ≡ n =
    ap length read ∙ length-map-range_with_len (item body) 0 n in
    let sum : length (concat (item_bytes v)) ≡ length
    (concat (map (item body) (range_with_len 0 n))) =
    ap (λ (l : List (List ℕ)). length (concat l)) read in
    let long : length body ≡ 8 + 8 * n + length v.lead + length
    (concat (map (item body) (range_with_len 0 n))) =
    omega (arith, ap length spelled, length-fmp_bytes v, count, sum) in
    let no_lead : v.lead ≡ [] = empty_is v.lead (omega (arith, long, e, no_more body 0 n)) in
    let items : item_bytes v ≡ kept_items body =
    read ∙ sym (all_kept body 0 n (omega (arith, long, e))) in
    let drivers : length v.drivers ≡ driver_count body =
    length-map-range_with_len (item body) 0 (driver_count body) in
    let images : length v.images ≡ image_count body =
    length-map-range_with_len (λ k. image_of (item body k)) (driver_count body)
    (image_count body) in
    let first : first_place v ≡ list_end body = omega (arith, count, ap length no_lead) in
    fmp_kept body is good
    ∙ sym (same_parts (length v.drivers) (driver_count body) (length v.images) (image_count body)
    (first_place v) (list_end body) (item_bytes v) (kept_items body) drivers images first items)
    ∙ ap (λ (lead : List ℕ). fmp_header_bytes
    (record { drivers = length v.drivers; items = length v.images })
    ++ (flat_map (bytes_of 8) (offsets (first_place v) (item_bytes v))
    ++ (lead ++ concat (item_bytes v)))) (sym no_lead)
    ∙ spelled

same_spelling : (bytes : List ℕ) (a b : FmpValue) → fmp_bytes a ≡ fmp_bytes b
    → spelling (with_body bytes (Fmp a)) ≡ spelling (with_body bytes (Fmp b))
same_spelling bytes a b e =
    let ext = field bytes 28 (header_size bytes - 28) in
    ap (λ (l : List ℕ). capsule_header_bytes
    (record {
      guid = record { bytes = field bytes 0 16 };
      header_size = 28 + length ext;
      flags = number_at bytes 20 4;
      image_size = 28 + length ext + length l;
    }) ++ (ext ++ l)) e

read_with : (bytes : List ℕ) → is_fmp_guid (field bytes 0 16) ≡ true
    → capsule_of bytes ≡ with_body bytes (Fmp (fmp_of (body_of bytes)))
read_with bytes fmp = ap (λ (b : Body). with_body bytes b)
    (cond-true (is_fmp_guid (field bytes 0 16)) (Fmp (fmp_of (body_of bytes)))
    (Other (body_of bytes)) fmp)

body_is_bytes : (bytes : List ℕ) → IsBytes bytes → IsBytes (body_of bytes)
body_is_bytes bytes is = IsBytes-field bytes (header_size bytes)
    (image_size bytes - header_size bytes) is

-- a rebuild that keeps the length of the body keeps the capsule
pub fmp_rebuilt : (bytes : List ℕ) → IsBytes bytes → refusal bytes ≡ None
    → is_fmp_guid (field bytes 0 16) ≡ true
    → list_end (body_of bytes) + length (concat (kept_items (body_of bytes))) ≡ length
    (body_of bytes) → spelling (emptied (capsule_of bytes)) ≡ take (image_size bytes) bytes
fmp_rebuilt bytes is none fmp e =
    let body = body_of bytes in
    let good = fmp_case bytes none fmp in
    let b = body_is_bytes bytes is in
    ap spelling (emptied_is bytes fmp)
    ∙ same_spelling bytes (emptied_fmp (fmp_of body)) (fmp_of body)
    (body_same body b good e ∙ sym (fmp_spelled body b good))
    ∙ ap spelling (sym (read_with bytes fmp))
    ∙ read_is_spelled bytes is none

-- and one that keeps the capsule keeps that length
pub fmp_keeps_length : (bytes : List ℕ) → IsBytes bytes → refusal bytes ≡ None
    → is_fmp_guid (field bytes 0 16) ≡ true
    → spelling (emptied (capsule_of bytes)) ≡ take (image_size bytes) bytes
    → list_end (body_of bytes) + length (concat (kept_items (body_of bytes))) ≡ length
    (body_of bytes)
fmp_keeps_length bytes is none fmp e =
    let body = body_of bytes in
    let good = fmp_case bytes none fmp in
    let front = front_of bytes none in
    let c = with_body bytes (Fmp (emptied_fmp (fmp_of body))) in
    let long : length (spelling c) ≡ 28 + length c.ext + length
    (fmp_bytes (emptied_fmp (fmp_of body))) =
    spelling_length c (length-field bytes 0 16 (omega (arith, front.long))) in
    let ext : length c.ext ≡ header_size bytes - 28 =
    length-field bytes 28 (header_size bytes - 28)
    (omega (arith, front.low, front.within, front.there)) in
    let whole : length (spelling c) ≡ image_size bytes =
    ap length (ap spelling (sym (emptied_is bytes fmp)) ∙ e)
    ∙ (let t = length-take (image_size bytes) bytes in omega (arith, t, front.there)) in
    let body_long : length body ≡ image_size bytes - header_size bytes =
    length-field bytes (header_size bytes) (image_size bytes - header_size bytes)
    (omega (arith, front.within, front.there)) in
    omega (
      arith,
      long,
      ext,
      whole,
      body_long,
      front.low,
      front.within,
      fmp_size_kept body (body_is_bytes bytes is) good,
    )
