-- What is read is spelled: bytes of which no row holds are the spelling of the capsule that is read
-- from them.
use Rattle.std.proofs.Common.{◌≡◌, ℕ, zero, suc, ◌+◌, ◌*◌, ◌-◌, ◌^◌, ◌<◌, ◌≤◌, true, cond, List, []}
use Rattle.std.proofs.Common.{◌++◌, length, take, drop, map, None, Ok, refl, sym, ap, ◌∙◌, inl, inr}
use Rattle.std.proofs.Common.{arith, append_assoc}
use Rattle.std.specs.List.{range_with_len, concat, list_all, flat_map, AllByRecursion}
use Rattle.std.proofs.lemmas.Bool.{ltb-false, lt-ltb, le-leb, le-ltb, or_parts, and_from, eq-eqb}
use Rattle.std.proofs.lemmas.Bool.{eqb-true, not-false, not_from_true, cases_Bool, cond-true}
use Rattle.std.proofs.lemmas.Bool.{cond-false}
use Rattle.std.proofs.lemmas.List.{take_all, length-take, take-append-drop}
use Rattle.std.proofs.lemmas.List.FromFn.{length-map-range_with_len}
use Rattle.cu_base.specs.Fields.{field, number_at, bytes_of}
use Rattle.cu_base.specs.Refusals.{first_refusal}
use Rattle.cu_base.specs.declared.limits.TheConstants.{MAX_CAPSULE_BYTES}
use Rattle.cu_base.specs.Bytes.{IsBytes}
use Rattle.fmp_headers.specs.CapsuleHeader.{header_size, image_size, capsule_header_rows}
use Rattle.fmp_headers.specs.CapsuleHeader.{capsule_header_fields, capsule_header_bytes}
use Rattle.fmp_headers.specs.FmpHeader.{fmp_header_rows, fmp_header, fmp_header_fields}
use Rattle.fmp_headers.specs.FmpHeader.{fmp_header_bytes}
use Rattle.fmp_headers.specs.ImageHeader.{image_header_rows, image_header_fields}
use Rattle.fmp_headers.specs.ImageHeader.{image_header_bytes, image_header_size, image_version}
use Rattle.fmp_headers.specs.ImageHeader.{IsImageHeader}
use Rattle.fmp_headers.specs.declared.capsule.CapsuleHeader.{CapsuleHeader}
use Rattle.cu_base.proofs.Rows.{passed, none_refused, first-parts, each_in}
use Rattle.fmp_headers.proofs.Headers.{header_given, capsule_header_back, fmp_header_back}
use Rattle.fmp_headers.proofs.Images.{image_header_back, image_header_kept}
use Rattle.cu_base.proofs.Fields.{length-field, next_field, take_field, bytes_of-number_at}
use Rattle.cu_base.proofs.Fields.{number_at-below, IsBytes-field}
use Rattle.capsule_grammar.specs.declared.value.Body.{Body}
use Rattle.capsule_grammar.specs.declared.value.Body.TheVariants.{Other, Fmp}
use Rattle.capsule_grammar.specs.Refusals.{refusal, capsule_rows, is_fmp_guid, body_of, fmp_rows}
use Rattle.capsule_grammar.specs.Refusals.{fmp_front_rows, all_offset_rows, all_image_rows}
use Rattle.capsule_grammar.specs.Refusals.{image_rows, driver_count, image_count, item_count}
use Rattle.capsule_grammar.specs.Refusals.{list_end, bound, item}
use Rattle.capsule_grammar.specs.Accepted.{AreBounds, IsImageItem, IsFmpBody, IsFront}
use Rattle.capsule_grammar.specs.Spelling.{image_bytes, item_bytes, offsets, fmp_bytes, body_bytes}
use Rattle.capsule_grammar.specs.Spelling.{spelling}
use Rattle.capsule_grammar.specs.Fits.{is_nonempty, image_fits, fmp_fits, body_fits, HaveWidths}
use Rattle.capsule_grammar.specs.Fits.{IsCapsule}
use Rattle.capsule_grammar.specs.Reading.{image_of, fmp_of, body_read, capsule_of}
use Rattle.capsule_grammar.proofs.Offsets.{all_are_bounds, bound_is, bound_ends}
use Rattle.capsule_grammar.proofs.Spelled.{spelling_length}
use Rattle.capsule_grammar.proofs.Lists.{field_split, between_split, map_range, map-range-append}
use Rattle.capsule_grammar.proofs.Lists.{map-map-range, all_of_range, all_range, regroup}
use Rattle.capsule_grammar.proofs.Lists.{append_both}

-- ---- an image

pub is_image_item : (image : List ℕ) (at : ℕ) → first_refusal (image_rows image at) ≡ None
    → IsImageItem image
is_image_item image at e =
    let r = passed (image_rows image at) e in
    record {
      header = header_given (first_refusal (image_header_rows image)) (image_header_fields image)
          (image_header_fields image)
          (none_refused (image_header_rows image) (r.0, (r.1.0, (r.1.1.0, tt)))) refl;
      parts = ltb-false _ _ r.1.1.1.0;
    }

pub image_spelled : (image : List ℕ) → IsBytes image → IsImageItem image
    → image_bytes (image_of image) ≡ image
image_spelled image is good =
    let size = image_header_size (image_version image) in
    let front : image_header_bytes (image_header_fields image) ≡ take size image =
    image_header_back image (image_header_fields image) is good.header in
    let i = number_at image 24 4 in
    let v = number_at image 28 4 in
    let a : image_header_bytes (image_header_fields image)
    ++ field image size i ≡ take (size + i) image = next_field image _ size i front in
    let b : (image_header_bytes (image_header_fields image) ++ field image size i)
    ++ field image (size + i) v ≡ take (size + i + v) image = next_field image _ (size + i) v a in
    regroup (image_header_bytes (image_header_fields image)) (field image size i)
    (field image (size + i) v) (drop (size + i + v) image)
    ∙ ap (λ (l : List ℕ). l ++ drop (size + i + v) image) b ∙ take-append-drop (size + i + v) image

pub image_read_fits : (image : List ℕ) → IsBytes image → IsImageItem image
    → image_fits (image_of image) ≡ true
image_read_fits image is good =
    let size = image_header_size (image_version image) in
    let i = number_at image 24 4 in
    let v = number_at image 28 4 in
    let kept = image_header_kept image (image_header_fields image) is good.header in
    let li : length (field image size i) ≡ i =
    length-field image size i (omega (arith, good.parts)) in
    let lv : length (field image (size + i) v) ≡ v =
    length-field image (size + i) v (omega (arith, good.parts)) in
    and_from _ _ (and_from _ _ (eq-eqb i _ (sym li)) (eq-eqb v _ (sym lv))) kept.rules

-- ---- the items of a body

-- the bounds do not fall
pub bounds_rise : (body : List ℕ) (a n : ℕ) → AreBounds body (length body) → a + n ≤ item_count body
    → bound body a ≤ bound body (a + n)
bounds_rise body a zero are le = let e : a + 0 ≡ a = omega arith in rw e (omega arith)
bounds_rise body a (suc n) are le =
    let e : a + suc n ≡ a + 1 + n = omega arith in
    let here : bound body a ≤ bound body (a + 1) = are.rising a (omega arith) in
    let there : bound body (a + 1) ≤ bound body (a + 1 + n) =
    bounds_rise body (a + 1) n are (omega arith) in
    rw e (omega (arith, here, there))

-- n items from item a on are the bytes between their bounds
pub items_between : (body : List ℕ) (a n : ℕ) → AreBounds body (length body)
    → a + n ≤ item_count body → concat (map (item body) (range_with_len a n)) ≡ field body
    (bound body a) (bound body (a + n) - bound body a)
items_between body a zero are le =
    let e : a + 0 ≡ a = omega arith in
    let z : bound body a - bound body a ≡ 0 = omega arith in
    rw (e, z) refl
items_between body a (suc n) are le =
    let e : a + suc n ≡ a + 1 + n = omega arith in
    rw e (
    ap (λ (l : List ℕ). item body a ++ l) (items_between body (a + 1) n are (omega arith))
    ∙ between_split body (bound body a) (bound body (a + 1)) (bound body (a + 1 + n))
    (are.rising a (omega arith)) (bounds_rise body (a + 1) n are (omega arith)))

-- the next bound is the length of the item away
pub next_bound : (body : List ℕ) (k : ℕ) → AreBounds body (length body) → k < item_count body
    → bound body k + length (item body k) ≡ bound body (k + 1)
next_bound body k are here =
    let rises = are.rising k here in
    let within = are.within (k + 1) (omega arith) in
    omega (
      arith,
      rises,
      length-field body (bound body k) (bound body (k + 1) - bound body k)
          (omega (arith, rises, within)),
    )

-- and their offsets are their bounds
pub offsets_are : (body : List ℕ) (a n : ℕ) (here : ℕ) → AreBounds body (length body)
    → a + n ≤ item_count body → here ≡ bound body a
    → offsets here (map (item body) (range_with_len a n)) ≡ map (bound body) (range_with_len a n)
offsets_are body a zero here are le e = refl
offsets_are body a (suc n) here are le e =
    let next : here + length (item body a) ≡ bound body (a + 1) =
    omega (arith, e, next_bound body a are (omega arith)) in
    rw (offsets_are body (a + 1) n (here + length (item body a)) are (omega arith) next, e) refl

-- the bounds stand in the offset list
pub list_is : (body : List ℕ) (a n : ℕ) → IsBytes body → list_end body ≤ length body
    → a + n ≤ item_count body → flat_map (bytes_of 8)
    (map (bound body) (range_with_len a n)) ≡ field body (8 + 8 * a) (8 * n)
list_is body a zero is long le = refl
list_is body a (suc n) is long le =
    let next : 8 + 8 * (a + 1) ≡ 8 + 8 * a + 8 = omega arith in
    let more : 8 * suc n ≡ 8 + 8 * n = omega arith in
    let first : bytes_of 8 (bound body a) ≡ field body (8 + 8 * a) 8 =
    ap (bytes_of 8) (bound_is body a (omega arith))
    ∙ bytes_of-number_at body (8 + 8 * a) 8 is (omega arith) in
    let rest : flat_map (bytes_of 8) (map (bound body) (range_with_len (a + 1) n)) ≡ field body
    (8 + 8 * a + 8) (8 * n) = list_is body (a + 1) n is long (omega arith)
    ∙ ap (λ (k : ℕ). field body k (8 * n)) next in
    append_both (bytes_of 8 (bound body a)) (field body (8 + 8 * a) 8)
    (flat_map (bytes_of 8) (map (bound body) (range_with_len (a + 1) n)))
    (field body (8 + 8 * a + 8) (8 * n)) first rest
    ∙ field_split body (8 + 8 * a) 8 (8 * n) ∙ ap (field body (8 + 8 * a)) (sym more)

-- ---- a body

pub is_fmp_body : (body : List ℕ) (at : ℕ) → first_refusal (fmp_rows body at) ≡ None
    → IsFmpBody body
is_fmp_body body at e =
    let head = first-parts (fmp_front_rows body at)
    (all_offset_rows body at ++ all_image_rows body at) e in
    let tail = first-parts (all_offset_rows body at) (all_image_rows body at) head.1 in
    let r = passed (fmp_front_rows body at) head.0 in
    let long : list_end body ≤ length body = ltb-false _ _ r.1.1.0 in
    record {
      version = eqb-true _ _ (not-false _ r.1.0);
      long = long;
      bounds = all_are_bounds body at long tail.0;
      images = λ k low high. is_image_item (item body k) (at + bound body k)
          (each_in (λ j. image_rows (item body j) (at + bound body j)) (driver_count body)
          (image_count body) k tail.1 low high);
    }

-- the items that are read are those of the body
pub items_read : (body : List ℕ) → IsBytes body → IsFmpBody body
    → item_bytes (fmp_of body) ≡ map (item body) (range_with_len 0 (item_count body))
items_read body is good =
    let d = driver_count body in
    let i = image_count body in
    let spelled : (k : ℕ) → d ≤ k → k < d + i → image_bytes (image_of (item body k)) ≡ item body k =
    λ k low high. image_spelled (item body k)
    (IsBytes-field body (bound body k) (bound body (k + 1) - bound body k) is)
    (good.images k low high) in
    let images : map image_bytes (map (λ k. image_of (item body k)) (range_with_len d i)) ≡ map
    (item body) (range_with_len d i) =
    map-map-range image_bytes (λ k. image_of (item body k)) d i
    ∙ map_range (λ k. image_bytes (image_of (item body k))) (item body) d i spelled in
    let start : 0 + d ≡ d = omega arith in
    let joined : map (item body) (range_with_len 0 d)
    ++ map (item body) (range_with_len d i) ≡ map (item body) (range_with_len 0 (d + i)) =
    ap (λ (k : ℕ). map (item body) (range_with_len 0 d) ++ map (item body) (range_with_len k i))
    (sym start) ∙ map-range-append (item body) 0 d i in
    ap (λ (l : List (List ℕ)). map (item body) (range_with_len 0 d) ++ l) images ∙ joined

-- the parts of a body, by places
parts_of_body : (body header list lead items : List ℕ) (a b c : ℕ) → header ≡ take a body
    → list ≡ field body a (b - a) → lead ≡ field body b (c - b)
    → items ≡ field body c (length body - c) → a ≤ b → b ≤ c → c ≤ length body → header
    ++ (list ++ (lead ++ items)) ≡ body
parts_of_body body header list lead items a b c eh el ed ei ab bc cl =
    let to_b : header ++ list ≡ take b body =
    append_both header (take a body) list (field body a (b - a)) eh el ∙ take_field body a (b - a)
    ∙ (let e : a + (b - a) ≡ b = omega arith in rw e refl) in
    let to_c : (header ++ list) ++ lead ≡ take c body =
    append_both (header ++ list) (take b body) lead (field body b (c - b)) to_b ed
    ∙ take_field body b (c - b) ∙ (let e : b + (c - b) ≡ c = omega arith in rw e refl) in
    let to_end : ((header ++ list) ++ lead) ++ items ≡ take (length body) body =
    append_both ((header ++ list) ++ lead) (take c body) items
    (field body c (length body - c)) to_c ei ∙ take_field body c (length body - c)
    ∙ (let e : c + (length body - c) ≡ length body = omega arith in rw e refl) in
    regroup header list lead items ∙ to_end ∙ take_all (length body) body (omega arith)

pub same_header : (d d' i i' : ℕ) → d ≡ d' → i ≡ i'
    → fmp_header_bytes (record { drivers = d; items = i }) ≡ fmp_header_bytes
    (record { drivers = d'; items = i' })
same_header d d' i i' ed ei = rw (ed, ei) refl

fmp_read : (body : List ℕ) → number_at body 0 4 ≡ 1 → 8 ≤ length body
    → fmp_header body ≡ Ok (fmp_header_fields body)
fmp_read body version long = header_given (first_refusal (fmp_header_rows body))
    (fmp_header_fields body) (fmp_header_fields body)
    (none_refused (fmp_header_rows body)
    (le-ltb _ _ long, (not_from_true _ (eq-eqb _ _ version), tt))) refl

pub fmp_spelled : (body : List ℕ) → IsBytes body → IsFmpBody body → fmp_bytes (fmp_of body) ≡ body
fmp_spelled body is good =
    let d = driver_count body in
    let i = image_count body in
    let n = item_count body in
    let v = fmp_of body in
    let are = good.bounds in
    let items : item_bytes v ≡ map (item body) (range_with_len 0 n) = items_read body is good in
    let ld : length v.drivers ≡ d = length-map-range_with_len (item body) 0 d in
    let li : length v.images ≡ i = length-map-range_with_len (λ k. image_of (item body k)) d i in
    let ln : length (item_bytes v) ≡ n =
    ap length items ∙ length-map-range_with_len (item body) 0 n in
    let behind : list_end body ≤ bound body 0 = are.behind 0 (omega arith) in
    let within : bound body 0 ≤ length body = are.within 0 (omega arith) in
    let ll : length v.lead ≡ bound body 0 - list_end body =
    length-field body (list_end body) (bound body 0 - list_end body)
    (omega (arith, behind, within)) in
    let first : 8 + 8 * length (item_bytes v) + length v.lead ≡ bound body 0 =
    omega (arith, ln, ll, behind) in
    let end : 0 + n ≡ n = omega arith in
    let last : bound body (0 + n) ≡ length body = bound_ends body (0 + n) (omega arith) in
    let header : fmp_header_bytes
    (record { drivers = length v.drivers; items = length v.images }) ≡ take 8 body =
    same_header (length v.drivers) d (length v.images) i ld li
    ∙ fmp_header_back body (fmp_header_fields body) is
    (fmp_read body good.version (omega (arith, good.long))) in
    let list_here : offsets (8 + 8 * length (item_bytes v) + length v.lead) (item_bytes v) ≡ map
    (bound body) (range_with_len 0 n) =
    ap (offsets (8 + 8 * length (item_bytes v) + length v.lead)) items
    ∙ offsets_are body 0 n _ are (omega arith) first in
    let size : 8 * n ≡ list_end body - 8 = omega arith in
    let list : flat_map (bytes_of 8)
    (offsets (8 + 8 * length (item_bytes v) + length v.lead) (item_bytes v)) ≡ field body 8
    (list_end body - 8) =
    ap (flat_map (bytes_of 8)) list_here ∙ list_is body 0 n is good.long (omega arith)
    ∙ ap (field body 8) size in
    let rest : concat (item_bytes v) ≡ field body (bound body 0) (length body - bound body 0) =
    ap concat items ∙ items_between body 0 n are (omega arith)
    ∙ ap (λ (k : ℕ). field body (bound body 0) (k - bound body 0)) last in
    parts_of_body body _ _ v.lead _ 8 (list_end body) (bound body 0) header list refl rest
    (omega arith) behind within

widths_read : (body : List ℕ) (a n : ℕ) → IsBytes body
    → ((k : ℕ) → a ≤ k → k < a + n → IsImageItem (item body k))
    → AllByRecursion (λ i. IsImageHeader i.header)
    (map (λ k. image_of (item body k)) (range_with_len a n))
widths_read body a zero is good = tt
widths_read body a (suc n) is good = (
  image_header_kept (item body a) (image_header_fields (item body a))
      (IsBytes-field body (bound body a) (bound body (a + 1) - bound body a) is)
      (good a (omega arith) (omega arith)).header,
  widths_read body (a + 1) n is (λ k low high. good k (omega arith) (omega arith)),
)

pub fmp_read_fits : (body : List ℕ) → IsBytes body → IsFmpBody body → fmp_fits (fmp_of body) ≡ true
fmp_read_fits body is good =
    let d = driver_count body in
    let i = image_count body in
    let v = fmp_of body in
    let are = good.bounds in
    let ld : length v.drivers ≡ d = length-map-range_with_len (item body) 0 d in
    let li : length v.images ≡ i = length-map-range_with_len (λ k. image_of (item body k)) d i in
    let bd : d < 256 ^ 2 = number_at-below body 4 2 is (omega (arith, good.long)) in
    let bi : i < 256 ^ 2 = number_at-below body 6 2 is (omega (arith, good.long)) in
    let few_drivers : length v.drivers < 2 ^ 16 = omega (arith, ld, bd) in
    let few_images : length v.images < 2 ^ 16 = omega (arith, li, bi) in
    let nonempty : (k : ℕ) → 0 ≤ k → k < 0 + d → k < 0 + (length v.drivers + length v.images - 1)
    → is_nonempty (item body k) ≡ true = λ k low high front.
    let next : k + 1 < item_count body = omega (arith, ld, li) in
    let apart = are.apart k next in
    let here : 0 < length (item body k) =
    omega (arith, apart, next_bound body k are (omega arith)) in
    lt-ltb _ _ here in
    let drivers : list_all is_nonempty
    (take (length v.drivers + length v.images - 1) v.drivers) ≡ true =
    all_of_range is_nonempty (item body) 0 d (length v.drivers + length v.images - 1) nonempty in
    let images : list_all image_fits v.images ≡ true =
    all_range image_fits (λ k. image_of (item body k)) d i
    (λ k low high. image_read_fits (item body k)
    (IsBytes-field body (bound body k) (bound body (k + 1) - bound body k) is)
    (good.images k low high)) in
    and_from _ _
    (and_from _ _ (and_from _ _ (lt-ltb _ _ few_drivers) (lt-ltb _ _ few_images)) drivers) images

-- ---- a capsule

pub is_front : (bytes : List ℕ) → first_refusal (capsule_rows bytes) ≡ None → IsFront bytes
is_front bytes e =
    let r = passed (capsule_rows bytes) e in
    let sizes = or_parts _ _ r.1.0 in
    let ends = or_parts _ _ r.1.1.0 in
    record {
      header = header_given (first_refusal (capsule_header_rows bytes))
          (capsule_header_fields bytes) (capsule_header_fields bytes)
          (none_refused (capsule_header_rows bytes) (r.0, (r.1.0, (ends.0, tt)))) refl;
      long = ltb-false _ _ r.0;
      low = ltb-false _ _ sizes.0;
      within = ltb-false _ _ sizes.1;
      limit = ltb-false _ _ ends.0;
      there = ltb-false _ _ ends.1;
    }

pub same_sizes : (h : CapsuleHeader) (a b : ℕ) → a ≡ h.header_size → b ≡ h.image_size
    → capsule_header_bytes
    (record { guid = h.guid; header_size = a; flags = h.flags; image_size = b }) ≡
    capsule_header_bytes h
same_sizes h a b ea eb = rw (ea, eb) refl

three_parts : (bytes header ext body : List ℕ) (h s : ℕ) → header ≡ take 28 bytes
    → ext ≡ field bytes 28 (h - 28) → body ≡ field bytes h (s - h) → 28 ≤ h → h ≤ s → header
    ++ (ext ++ body) ≡ take s bytes
three_parts bytes header ext body h s eh ee eb low within =
    let to_h : header ++ ext ≡ take h bytes =
    append_both header (take 28 bytes) ext (field bytes 28 (h - 28)) eh ee
    ∙ take_field bytes 28 (h - 28) ∙ (let e : 28 + (h - 28) ≡ h = omega arith in rw e refl) in
    sym (append_assoc header ext body)
    ∙ append_both (header ++ ext) (take h bytes) body (field bytes h (s - h)) to_h eb
    ∙ take_field bytes h (s - h) ∙ (let e : h + (s - h) ≡ s = omega arith in rw e refl)

-- a body of these bytes makes a spelling of the front
around_body : (bytes : List ℕ) (b : Body) → IsBytes bytes → IsFront bytes
    → body_bytes b ≡ body_of bytes
    → spelling
    (record {
      guid = record { bytes = field bytes 0 16 };
      flags = number_at bytes 20 4;
      ext = field bytes 28 (header_size bytes - 28);
      body = b;
    }) ≡ take (image_size bytes) bytes
around_body bytes b is front body =
    let h = header_size bytes in
    let s = image_size bytes in
    let ext = field bytes 28 (h - 28) in
    let le : length ext ≡ h - 28 =
    length-field bytes 28 (h - 28) (omega (arith, front.low, front.within, front.there)) in
    let lb : length (body_bytes b) ≡ s - h =
    ap length body ∙ length-field bytes h (s - h) (omega (arith, front.within, front.there)) in
    let head : 28 + length ext ≡ h = omega (arith, le, front.low) in
    let whole : 28 + length ext + length (body_bytes b) ≡ s =
    omega (arith, head, lb, front.within) in
    let header : capsule_header_bytes
    (record {
      guid = record { bytes = field bytes 0 16 };
      header_size = 28 + length ext;
      flags = number_at bytes 20 4;
      image_size = 28 + length ext + length (body_bytes b);
    }) ≡ take 28
    bytes =
    same_sizes (capsule_header_fields bytes) (28 + length ext)
    (28 + length ext + length (body_bytes b)) head whole
    ∙ capsule_header_back bytes (capsule_header_fields bytes) is front.header in
    three_parts bytes _ ext (body_bytes b) h s header refl body front.low front.within

pub fmp_case : (bytes : List ℕ) → refusal bytes ≡ None → is_fmp_guid (field bytes 0 16) ≡ true
    → IsFmpBody (body_of bytes)
fmp_case bytes e fmp =
    let parts = first-parts (capsule_rows bytes)
    (cond (is_fmp_guid (field bytes 0 16)) (fmp_rows (body_of bytes) (header_size bytes)) []) e in
    is_fmp_body (body_of bytes) (header_size bytes)
    (ap first_refusal
    (sym (cond-true (is_fmp_guid (field bytes 0 16))
    (fmp_rows (body_of bytes) (header_size bytes)) [] fmp)) ∙ parts.1)

pub front_of : (bytes : List ℕ) → refusal bytes ≡ None → IsFront bytes
front_of bytes e = is_front bytes
    (first-parts (capsule_rows bytes)
    (cond (is_fmp_guid (field bytes 0 16)) (fmp_rows (body_of bytes) (header_size bytes)) []) e).0

-- bytes that are not refused are the spelling of what is read, which is a capsule
pub read_is_spelled : (bytes : List ℕ) → IsBytes bytes → refusal bytes ≡ None
    → spelling (capsule_of bytes) ≡ take (image_size bytes) bytes
read_is_spelled bytes is e =
    let front = front_of bytes e in
    let body_is = IsBytes-field bytes (header_size bytes)
    (image_size bytes - header_size bytes) is in
    let body : body_bytes (body_read bytes) ≡ body_of bytes =
    elim (cases_Bool (is_fmp_guid (field bytes 0 16))) [
      | inl fmp ↦ ap body_bytes
          (cond-true (is_fmp_guid (field bytes 0 16)) (Fmp (fmp_of (body_of bytes)))
          (Other (body_of bytes)) fmp) ∙ fmp_spelled (body_of bytes) body_is (fmp_case bytes e fmp)
      | inr other ↦ ap body_bytes
          (cond-false (is_fmp_guid (field bytes 0 16)) (Fmp (fmp_of (body_of bytes)))
          (Other (body_of bytes)) other)
    ] in
    around_body bytes (body_read bytes) is front body

body_fits_read : (bytes : List ℕ) → IsBytes bytes → refusal bytes ≡ None
    → body_fits (is_fmp_guid (field bytes 0 16)) (body_read bytes) ≡ true
body_fits_read bytes is e =
    let body_is = IsBytes-field bytes (header_size bytes)
    (image_size bytes - header_size bytes) is in
    elim (cases_Bool (is_fmp_guid (field bytes 0 16))) [
      | inl fmp ↦ rw fmp (fmp_read_fits (body_of bytes) body_is (fmp_case bytes e fmp))
      | inr other ↦ rw other refl
    ]

widths_of_body : (bytes : List ℕ) → IsBytes bytes → refusal bytes ≡ None
    → HaveWidths (body_read bytes)
widths_of_body bytes is e =
    let body_is = IsBytes-field bytes (header_size bytes)
    (image_size bytes - header_size bytes) is in
    elim (cases_Bool (is_fmp_guid (field bytes 0 16))) [
      | inl fmp ↦ rw fmp
          (widths_read (body_of bytes) (driver_count (body_of bytes))
          (image_count (body_of bytes)) body_is (fmp_case bytes e fmp).images)
      | inr other ↦ rw other tt
    ]

-- CapsuleImageSize of the capsule that is read is that of the header
read_sized : (bytes : List ℕ) → IsBytes bytes → refusal bytes ≡ None
    → 28 + length (capsule_of bytes).ext + length
    (body_bytes (capsule_of bytes).body) ≤ MAX_CAPSULE_BYTES
read_sized bytes is e =
    let front = front_of bytes e in
    let c = capsule_of bytes in
    let guid = length-field bytes 0 16 (omega (arith, front.long)) in
    let size = ap length (read_is_spelled bytes is e) in
    let parts : length (spelling c) ≡ 28 + length c.ext + length (body_bytes c.body) =
    spelling_length c guid in
    omega (arith, parts, size, length-take (image_size bytes) bytes, front.limit)

pub read_is_capsule : (bytes : List ℕ) → IsBytes bytes → refusal bytes ≡ None
    → IsCapsule (capsule_of bytes)
read_is_capsule bytes is e =
    let front = front_of bytes e in
    record {
      guid = length-field bytes 0 16 (omega (arith, front.long));
      flags = number_at-below bytes 20 4 is (omega (arith, front.long));
      widths = widths_of_body bytes is e;
      fits = body_fits_read bytes is e;
      sized = le-leb _ _ (read_sized bytes is e);
    }

pub read_length : (bytes : List ℕ) → IsBytes bytes → refusal bytes ≡ None
    → length (spelling (capsule_of bytes)) ≡ image_size bytes
read_length bytes is e = omega (
  arith,
  ap length (read_is_spelled bytes is e),
  length-take (image_size bytes) bytes,
  (front_of bytes e).there,
)
