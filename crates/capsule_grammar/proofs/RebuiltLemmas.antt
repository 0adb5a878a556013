-- What is written again of a capsule.
use Rattle.std.proofs.Common.{◌≡◌, ℕ, ◌+◌, ◌-◌, ◌<◌, ◌≤◌, true, false, ltb, List, [], ◌++◌, length}
use Rattle.std.proofs.Common.{get_or, take, drop, map, None, refl, sym, ap, ◌∙◌, inl, inr, arith}
use Rattle.std.proofs.Common.{append_assoc}
use Rattle.std.specs.List.{range_with_len, concat, flat_map}
use Rattle.std.proofs.lemmas.Bool.{lt-ltb, le-ltb, cond-true, cond-false, cases_lt}
use Rattle.std.proofs.lemmas.List.{append-nil, take_all, length-take}
use Rattle.std.proofs.lemmas.List.FromFn.{length-map-range_with_len, get_or-map-range_with_len}
use Rattle.cu_base.specs.Fields.{field, number_at, bytes_of}
use Rattle.cu_base.specs.Bytes.{IsBytes}
use Rattle.fmp_headers.specs.FmpHeader.{fmp_header_bytes}
use Rattle.fmp_headers.specs.CapsuleHeader.{header_size, image_size, capsule_header_bytes}
use Rattle.fmp_headers.specs.ImageHeader.{image_header_fields, image_header_bytes}
use Rattle.fmp_headers.specs.ImageHeader.{image_header_size, image_version}
use Rattle.fmp_headers.specs.declared.capsule.CapsuleHeader.{CapsuleHeader}
use Rattle.cu_base.proofs.Fields.{next_field, IsBytes-field, length-field}
use Rattle.fmp_headers.proofs.Images.{image_header_back}
use Rattle.capsule_grammar.specs.declared.value.Body.{Body}
use Rattle.capsule_grammar.specs.declared.value.Body.TheVariants.{Other, Fmp}
use Rattle.capsule_grammar.specs.Accepted.{IsImageItem, IsFmpBody, IsFront}
use Rattle.capsule_grammar.specs.Refusals.{driver_count, image_count, item_count, list_end, bound}
use Rattle.capsule_grammar.specs.Refusals.{item, image_parts_size, is_fmp_guid, body_of, refusal}
use Rattle.capsule_grammar.specs.Spelling.{image_bytes, item_bytes, fmp_bytes, offsets, first_place}
use Rattle.capsule_grammar.specs.Spelling.{header_of, body_bytes, spelling}
use Rattle.capsule_grammar.specs.Reading.{image_of, fmp_of, capsule_of}
use Rattle.capsule_grammar.specs.Rebuilt.{without_pad, emptied_fmp, emptied_body, emptied}
use Rattle.capsule_grammar.specs.Rebuilt.{with_body, kept, kept_items}
use Rattle.capsule_grammar.proofs.Lists.{map_range, map-range-append, map-map-range, regroup}
use Rattle.capsule_grammar.proofs.Read.{read_is_spelled, next_bound}
use Rattle.capsule_grammar.proofs.SizeLemmas.{length-fmp_bytes}
use Rattle.capsule_grammar.proofs.Spelled.{place_next}

shift3 : (old a b c : List ℕ) → ((old ++ a) ++ b) ++ c ≡ old ++ (a ++ (b ++ c))
shift3 old a b c = simp append_assoc

abbrev layout_of : List ℕ → ℕ → ℕ → ℕ → CapsuleHeader
layout_of g s f i =
    record { guid = record { bytes = g }; header_size = s; flags = f; image_size = i }

joined : (a a' b b' c c' : List ℕ) → a ≡ a' → b ≡ b' → c ≡ c' → a ++ (b ++ c) ≡ a' ++ (b' ++ c')
joined a a' b b' c c' ea eb ec = rw (ea, eb, ec) refl

same_layout : (g g' : List ℕ) (s s' f f' i i' : ℕ) → g ≡ g' → s ≡ s' → f ≡ f' → i ≡ i'
    → capsule_header_bytes (layout_of g s f i) ≡ capsule_header_bytes (layout_of g' s' f' i')
same_layout g g' s s' f f' i i' eg es ef ei = rw (eg, es, ef, ei) refl

image_kept : (image : List ℕ) → IsBytes image → IsImageItem image
    → image_bytes (without_pad (image_of image)) ≡ take (image_parts_size image) image
image_kept image is good =
    let size = image_header_size (image_version image) in
    let i = number_at image 24 4 in
    let v = number_at image 28 4 in
    let front : image_header_bytes (image_header_fields image) ≡ take size image =
    image_header_back image (image_header_fields image) is good.header in
    regroup (image_header_bytes (image_header_fields image)) (field image size i)
    (field image (size + i) v) []
    ∙ append-nil
    ((image_header_bytes (image_header_fields image) ++ field image size i)
    ++ field image (size + i) v)
    ∙ next_field image (image_header_bytes (image_header_fields image) ++ field image size i)
    (size + i) v (next_field image (image_header_bytes (image_header_fields image)) size i front)

pub driver_kept : (body : List ℕ) (k : ℕ) → k < driver_count body → item body k ≡ kept body k
driver_kept body k lt = sym
    (cond-true (ltb k (driver_count body)) (item body k)
    (take (image_parts_size (item body k)) (item body k)) (lt-ltb k (driver_count body) lt))

pub kept_image : (body : List ℕ) (k : ℕ) → driver_count body ≤ k
    → kept body k ≡ take (image_parts_size (item body k)) (item body k)
kept_image body k le = cond-false (ltb k (driver_count body)) (item body k)
    (take (image_parts_size (item body k)) (item body k)) (le-ltb k (driver_count body) le)

-- the items of the emptied body
pub items_kept : (body : List ℕ) → IsBytes body → IsFmpBody body
    → item_bytes (emptied_fmp (fmp_of body)) ≡ kept_items body
items_kept body is good =
    let d = driver_count body in
    let i = image_count body in
    let each : (k : ℕ) → d ≤ k → k < d + i
    → image_bytes (without_pad (image_of (item body k))) ≡ kept body k = λ k low high.
    image_kept (item body k)
    (IsBytes-field body (bound body k) (bound body (k + 1) - bound body k) is)
    (good.images k low high) ∙ sym (kept_image body k low) in
    let drivers : map (item body) (range_with_len 0 d) ≡ map (kept body) (range_with_len 0 d) =
    map_range (item body) (kept body) 0 d (λ k low high. driver_kept body k (omega arith)) in
    let images : map image_bytes
    (map without_pad (map (λ k. image_of (item body k)) (range_with_len d i))) ≡ map (kept body)
    (range_with_len d i) =
    ap (map image_bytes) (map-map-range without_pad (λ k. image_of (item body k)) d i)
    ∙ map-map-range image_bytes (λ k. without_pad (image_of (item body k))) d i
    ∙ map_range (λ k. image_bytes (without_pad (image_of (item body k)))) (kept body) d i each in
    let start : 0 + d ≡ d = omega arith in
    let joined : map (kept body) (range_with_len 0 d)
    ++ map (kept body) (range_with_len d i) ≡ map (kept body) (range_with_len 0 (d + i)) =
    ap (λ (k : ℕ). map (kept body) (range_with_len 0 d) ++ map (kept body) (range_with_len k i))
    (sym start) ∙ map-range-append (kept body) 0 d i in
    ap (λ (l : List (List ℕ)). l
    ++ map image_bytes (map without_pad (map (λ k. image_of (item body k)) (range_with_len d i))))
    drivers
    ∙ ap (λ (l : List (List ℕ)). map (kept body) (range_with_len 0 d) ++ l) images ∙ joined

pub length-kept_items : (body : List ℕ) → length (kept_items body) ≡ item_count body
length-kept_items body = length-map-range_with_len (kept body) 0 (item_count body)

pub kept_at : (body : List ℕ) (k : ℕ) → k < item_count body
    → get_or (kept_items body) k [] ≡ kept body k
kept_at body k lt = get_or-map-range_with_len (kept body) 0 (item_count body) k k [] lt
    (omega arith)

pub kept_within : (body : List ℕ) (k : ℕ) → length (kept body k) ≤ length (item body k)
kept_within body k =
    elim (cases_lt k (driver_count body)) [
      | inl low ↦ rw (← driver_kept body k low) (omega arith)
      | inr high ↦ rw (kept_image body k high)
          (omega (arith, length-take (image_parts_size (item body k)) (item body k)))
    ]

-- what is kept of the items before item k ends before item k does
pub kept_before : (body : List ℕ) (k size : ℕ) → IsFmpBody body → k < item_count body
    → size ≤ bound body k → size + length (kept body k) ≤ bound body (k + 1)
kept_before body k size good lt le =
    omega (arith, kept_within body k, next_bound body k good.bounds lt)

pub same_parts : (d d' i i' f f' : ℕ) (items items' : List (List ℕ)) → d ≡ d' → i ≡ i' → f ≡ f'
    → items ≡ items'
    → fmp_header_bytes (record { drivers = d; items = i })
    ++ (flat_map (bytes_of 8) (offsets f items) ++ ([] ++ concat items)) ≡ fmp_header_bytes
    (record { drivers = d'; items = i' })
    ++ (flat_map (bytes_of 8) (offsets f' items') ++ concat items')
same_parts d d' i i' f f' items items' ed ei ef e = rw (ed, ei, ef, e) refl

-- the bytes of the emptied body
pub fmp_kept : (body : List ℕ) → IsBytes body → IsFmpBody body
    → fmp_bytes (emptied_fmp (fmp_of body)) ≡ fmp_header_bytes
    (record { drivers = driver_count body; items = image_count body })
    ++ (flat_map (bytes_of 8) (offsets (list_end body) (kept_items body))
    ++ concat (kept_items body))
fmp_kept body is good =
    let v = emptied_fmp (fmp_of body) in
    let items = items_kept body is good in
    let ld : length v.drivers ≡ driver_count body =
    length-map-range_with_len (item body) 0 (driver_count body) in
    let li : length v.images ≡ image_count body =
    ap length
    (map-map-range without_pad (λ k. image_of (item body k)) (driver_count body) (image_count body))
    ∙ length-map-range_with_len (λ k. without_pad (image_of (item body k))) (driver_count body)
    (image_count body) in
    let first : first_place v ≡ list_end body =
    omega (arith, ap length items, length-kept_items body) in
    same_parts (length v.drivers) (driver_count body) (length v.images) (image_count body)
    (first_place v) (list_end body) (item_bytes v) (kept_items body) ld li first items

pub kept_all : (body : List ℕ) (k : ℕ) → item_count body ≤ k
    → take k (kept_items body) ≡ kept_items body
kept_all body k le = take_all k (kept_items body) (omega (arith, length-kept_items body))

pub kept_more : (body : List ℕ) (k : ℕ) → k < item_count body
    → length (concat (take (k + 1) (kept_items body))) ≡ length
    (concat (take k (kept_items body))) + length (kept body k)
kept_more body k lt =
    let there : k < length (kept_items body) = omega (arith, length-kept_items body) in
    omega (arith, place_next 0 (kept_items body) k there, ap length (kept_at body k lt))

pub in_list : (body : List ℕ) (k : ℕ) → k < item_count body → k < length (kept_items body)
in_list body k lt = omega (arith, length-kept_items body)

pub three_grown : (old a b c n1 n2 n3 t : List ℕ) → n1 ≡ old ++ a → n2 ≡ n1 ++ b → n3 ≡ n2 ++ c
    → t ≡ a ++ (b ++ c) → n3 ≡ old ++ t
three_grown old a b c n1 n2 n3 t e1 e2 e3 et =
    e3 ∙ ap (λ (l : List ℕ). l ++ c) (e2 ∙ ap (λ (l : List ℕ). l ++ b) e1) ∙ shift3 old a b c
    ∙ ap (λ (l : List ℕ). old ++ l) (sym et)

-- the size of the emptied body
pub fmp_size_kept : (body : List ℕ) → IsBytes body → IsFmpBody body
    → length (fmp_bytes (emptied_fmp (fmp_of body))) ≡ list_end body + length
    (concat (kept_items body))
fmp_size_kept body is good =
    let items = items_kept body is good in
    omega (
      arith,
      length-fmp_bytes (emptied_fmp (fmp_of body)),
      ap length items,
      length-kept_items body,
      ap (λ (l : List (List ℕ)). length (concat l)) items,
    )

-- the whole of a capsule with this body
pub whole_is : (bytes header ext body : List ℕ) (b : Body) (h : CapsuleHeader)
    (old n1 n2 n3 : List ℕ) → IsFront bytes → body ≡ body_bytes b → header ≡ capsule_header_bytes h
    → h.guid.bytes ≡ field bytes 0 16 → h.flags ≡ number_at bytes 20 4
    → h.header_size ≡ header_size bytes → h.image_size ≡ header_size bytes + length body
    → ext ≡ field bytes 28 (header_size bytes - 28)
    → n1 ≡ old ++ header → n2 ≡ n1 ++ ext → n3 ≡ n2 ++ body
    → n3 ≡ old ++ spelling (with_body bytes b)
whole_is bytes header ext body b h old n1 n2 n3 front body_is header_is guid flags head size ext_is
    e1 e2 e3 =
    let le : length (field bytes 28 (header_size bytes - 28)) ≡ header_size bytes - 28 =
    length-field bytes 28 (header_size bytes - 28)
    (omega (arith, front.low, front.within, front.there)) in
    let c = with_body bytes b in
    let h1 : h.header_size ≡ 28 + length c.ext = omega (arith, head, le, front.low) in
    let h2 : h.image_size ≡ 28 + length c.ext + length (body_bytes c.body) =
    omega (arith, size, le, front.low, ap length body_is) in
    let same : capsule_header_bytes h ≡ capsule_header_bytes (header_of c) =
    same_layout h.guid.bytes (field bytes 0 16) h.header_size (28 + length c.ext) h.flags
    (number_at bytes 20 4) h.image_size
    (28 + length c.ext + length (body_bytes c.body)) guid h1 flags h2 in
    let whole : spelling c ≡ header ++ (ext ++ body) =
    joined (capsule_header_bytes (header_of c)) header c.ext ext (body_bytes b) body
    (sym same ∙ sym header_is) (sym ext_is) (sym body_is) in
    three_grown old header ext body n1 n2 n3 (spelling c) e1 e2 e3 whole

pub emptied_is : (bytes : List ℕ) → is_fmp_guid (field bytes 0 16) ≡ true
    → emptied (capsule_of bytes) ≡ with_body bytes (Fmp (emptied_fmp (fmp_of (body_of bytes))))
emptied_is bytes fmp = ap (λ (b : Body). with_body bytes (emptied_body b))
    (cond-true (is_fmp_guid (field bytes 0 16)) (Fmp (fmp_of (body_of bytes)))
    (Other (body_of bytes)) fmp)

pub other_is : (bytes : List ℕ) → IsBytes bytes → refusal bytes ≡ None
    → is_fmp_guid (field bytes 0 16) ≡ false
    → spelling (emptied (capsule_of bytes)) ≡ take (image_size bytes) bytes
other_is bytes is none other =
    ap (λ (b : Body). spelling (with_body bytes (emptied_body b)))
    (cond-false (is_fmp_guid (field bytes 0 16)) (Fmp (fmp_of (body_of bytes)))
    (Other (body_of bytes)) other)
    ∙ ap (λ (b : Body). spelling (with_body bytes b))
    (sym (cond-false (is_fmp_guid (field bytes 0 16)) (Fmp (fmp_of (body_of bytes)))
    (Other (body_of bytes)) other))
    ∙ read_is_spelled bytes is none

pub slice_is : (bytes : List ℕ) (h s h' s' : ℕ) → h ≡ h' → s ≡ s'
    → take (s - h) (drop h bytes) ≡ field bytes h' (s' - h')
slice_is bytes h s h' s' eh es = rw (eh, es) refl
