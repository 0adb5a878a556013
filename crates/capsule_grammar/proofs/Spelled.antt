-- What is spelled is read: of a spelling no row holds, whatever follows it, and the capsule is read
-- from it again.
use Rattle.std.proofs.Common.{◌≡◌, ℕ, zero, suc, ◌+◌, ◌*◌, ◌-◌, ◌^◌, ◌<◌, ◌≤◌, Bool, true, false}
use Rattle.std.proofs.Common.{cond, ◌&&◌, ltb, leb, List, [], ◌∷◌, ◌++◌, length, get_or, take, drop}
use Rattle.std.proofs.Common.{map, None, Ok, refl, sym, ap, subst, ◌∙◌, inl, inr, arith}
use Rattle.std.proofs.Common.{append_assoc, length-append}
use Rattle.std.specs.List.{range_with_len, concat, list_all, flat_map, AllByRecursion}
use Rattle.std.proofs.lemmas.Bool.{ltb-false, ltb-true, leb-true, le-ltb, lt-leb, or_from}
use Rattle.std.proofs.lemmas.Bool.{and_parts, and_left, and_right, eq-eqb, eqb-true, not-false}
use Rattle.std.proofs.lemmas.Bool.{not_from_true, cases_lt}
use Rattle.std.proofs.lemmas.List.{take_all, take-append-drop, length-map, drop_more, take_more}
use Rattle.std.proofs.lemmas.List.{drop_at, same_lists, ext_get_or, get_or_append_left}
use Rattle.std.proofs.lemmas.List.{get_or-append_right, append-nil, nil_from_length}
use Rattle.std.proofs.lemmas.List.Folds.{concat-append}
use Rattle.std.proofs.lemmas.List.FromFn.{length-map-range_with_len, get_or-map-range_with_len}
use Rattle.cu_base.specs.Fields.{field, number_at, bytes_of}
use Rattle.cu_base.specs.Refusals.{first_refusal}
use Rattle.cu_base.specs.declared.limits.TheConstants.{MAX_CAPSULE_BYTES}
use Rattle.fmp_headers.specs.CapsuleHeader.{header_size, image_size, capsule_header}
use Rattle.fmp_headers.specs.CapsuleHeader.{capsule_header_rows, capsule_header_fields}
use Rattle.fmp_headers.specs.CapsuleHeader.{capsule_header_bytes}
use Rattle.fmp_headers.specs.FmpHeader.{fmp_header_fields, fmp_header_bytes, fmp_header_rows}
use Rattle.fmp_headers.specs.ImageHeader.{image_header_rows, image_header_fields}
use Rattle.fmp_headers.specs.ImageHeader.{image_header_bytes, image_header_size, IsImageHeader}
use Rattle.fmp_headers.specs.declared.image.ImageHeader.{ImageHeader}
use Rattle.fmp_headers.specs.declared.fmp.FmpHeader.{FmpHeader}
use Rattle.fmp_headers.specs.declared.capsule.CapsuleHeader.{CapsuleHeader}
use Rattle.cu_base.proofs.Rows.{passed, none_refused, first-none, none_in}
use Rattle.fmp_headers.proofs.Headers.{header_or_ok, capsule_header_again, fmp_header_again}
use Rattle.fmp_headers.proofs.Images.{image_header_again, length-image_header_bytes}
use Rattle.cu_base.proofs.Fields.{field_in, number_at_in, length-bytes_of}
use Rattle.capsule_grammar.specs.declared.value.Image.{Image}
use Rattle.capsule_grammar.specs.declared.value.Body.{Body}
use Rattle.capsule_grammar.specs.declared.value.Body.TheVariants.{Other, Fmp}
use Rattle.capsule_grammar.specs.declared.value.Capsule.{Capsule}
use Rattle.capsule_grammar.specs.Values.{FmpValue}
use Rattle.capsule_grammar.specs.Refusals.{refusal, capsule_rows, is_fmp_guid, body_of, fmp_rows}
use Rattle.capsule_grammar.specs.Refusals.{fmp_front_rows, offset_rows, all_offset_rows}
use Rattle.capsule_grammar.specs.Refusals.{all_image_rows, image_rows, image_parts_size}
use Rattle.capsule_grammar.specs.Refusals.{driver_count, image_count, item_count, list_end, offset}
use Rattle.capsule_grammar.specs.Refusals.{bound, item}
use Rattle.capsule_grammar.specs.Spelling.{image_bytes, item_bytes, offsets, fmp_bytes, body_bytes}
use Rattle.capsule_grammar.specs.Spelling.{first_place, header_of, spelling}
use Rattle.capsule_grammar.specs.Fits.{is_nonempty, image_fits, fmp_fits, body_fits, HaveWidths}
use Rattle.capsule_grammar.specs.Fits.{IsCapsule}
use Rattle.capsule_grammar.specs.Reading.{image_of, fmp_of, capsule_of}
use Rattle.capsule_grammar.proofs.Offsets.{bound_is, bound_ends}
use Rattle.capsule_grammar.proofs.Lists.{regroup}

-- ---- an image

-- the parts of an image that fits
pub record FitsImage (i : Image) : Type 0 where
  pub header : IsImageHeader i.header
  pub image : i.header.image_size ≡ length i.image
  pub vendor : i.header.vendor_size ≡ length i.vendor

fits_image : (i : Image) → IsImageHeader i.header → image_fits i ≡ true → FitsImage i
fits_image i widths e =
    let outer = and_parts _ _ e in
    let inner = and_parts _ _ outer.0 in
    record { header = widths; image = eqb-true _ _ inner.0; vendor = eqb-true _ _ inner.1 }

-- what is read at the front of its bytes
image_header_read : (h : ImageHeader) (rest : List ℕ) → IsImageHeader h
    → (first_refusal (image_header_rows (image_header_bytes h ++ rest)) ≡ None)
    × (image_header_fields (image_header_bytes h ++ rest) ≡ h)
image_header_read h rest is = header_or_ok
    (first_refusal (image_header_rows (image_header_bytes h ++ rest)))
    (image_header_fields (image_header_bytes h ++ rest)) h (image_header_again h rest is)

-- the bytes of an image: header h of size n, image, vendor code and pad
pub record ReadsImage (bytes : List ℕ) (i : Image) : Type 0 where
  pub none : first_refusal (image_header_rows bytes) ≡ None
  pub fields : image_header_fields bytes ≡ i.header
  pub image : field bytes (image_header_size i.header.version) i.header.image_size ≡ i.image
  pub vendor : field bytes (image_header_size i.header.version + i.header.image_size)
      i.header.vendor_size ≡ i.vendor
  pub pad : drop (image_header_size i.header.version + i.header.image_size + i.header.vendor_size)
      bytes ≡ i.pad
  pub long : image_header_size i.header.version + i.header.image_size + i.header.vendor_size ≤
      length bytes

image_parts : (bytes h i v p : List ℕ) (n a b : ℕ) → bytes ≡ h ++ (i ++ (v ++ p)) → length h ≡ n
    → length i ≡ a → length v ≡ b → (field bytes n a ≡ i) × (field bytes (n + a) b ≡ v)
    × (drop (n + a + b) bytes ≡ p) × (n + a + b ≤ length bytes)
image_parts bytes h i v p n a b e lh li lv = (
  field_in bytes h i (v ++ p) n a e lh li,
  field_in bytes (h ++ i) v p (n + a) b (e ∙ simp append_assoc)
      (simp length-append (omega arith)) lv,
  rw (e, regroup h i v p)
      (drop_at ((h ++ i) ++ v) p (n + a + b) (simp length-append (omega arith))),
  rw e (simp length-append (omega arith)),
)

reads_image : (i : Image) → FitsImage i → ReadsImage (image_bytes i) i
reads_image i is =
    let read = image_header_read i.header (i.image ++ (i.vendor ++ i.pad)) is.header in
    let parts = image_parts (image_bytes i) (image_header_bytes i.header) i.image i.vendor i.pad
    (image_header_size i.header.version) i.header.image_size i.header.vendor_size refl
    (length-image_header_bytes i.header is.header) (sym is.image) (sym is.vendor) in
    record {
      none = read.0;
      fields = read.1;
      image = parts.0;
      vendor = parts.1;
      pad = parts.2;
      long = parts.3;
    }

abbrev image_with : List ℕ → ImageHeader → Image
image_with bytes h =
    record {
      header = h;
      image = field bytes (image_header_size h.version) h.image_size;
      vendor = field bytes (image_header_size h.version + h.image_size) h.vendor_size;
      pad =
          drop (image_header_size h.version + h.image_size + h.vendor_size) bytes;
    }

abbrev image_made : ImageHeader → List ℕ → List ℕ → List ℕ → Image
image_made h i v p = record { header = h; image = i; vendor = v; pad = p }

same_image : (h : ImageHeader) (i i' v v' p p' : List ℕ) → i ≡ i' → v ≡ v' → p ≡ p'
    → image_made h i v p ≡ image_made h i' v' p'
same_image h i i' v v' p p' ei ev ep = rw (ei, ev, ep) refl

pub image_again : (i : Image) → FitsImage i → image_of (image_bytes i) ≡ i
image_again i is =
    let r = reads_image i is in
    ap (image_with (image_bytes i)) r.fields
    ∙ same_image i.header _ i.image _ i.vendor _ i.pad r.image r.vendor r.pad

rows_of_image : (bytes : List ℕ) (at : ℕ) (i : Image) → ReadsImage bytes i
    → first_refusal (image_rows bytes at) ≡ None
rows_of_image bytes at i r =
    let rows = passed (image_header_rows bytes) r.none in
    let size : image_parts_size bytes ≤ length bytes =
    subst (λ (h : ImageHeader). image_header_size h.version + h.image_size + h.vendor_size ≤ length
    bytes) (sym r.fields) r.long in
    none_refused (image_rows bytes at) (rows.0, (rows.1.0, (rows.1.1.0, (le-ltb _ _ size, tt))))

-- ---- places of items

-- where item k begins, if the first begins here
abbrev pub place : ℕ → List (List ℕ) → ℕ → ℕ
place here items k = here + length (concat (take k items))

pub place_next : (here : ℕ) (items : List (List ℕ)) (k : ℕ) → k < length items
    → place here items (k + 1) ≡ place here items k + length (get_or items k [])
place_next here items k lt =
    let more : concat (take (k + 1) items) ≡ concat (take k items) ++ get_or items k [] =
    ap concat (take_more items k [] lt) ∙ concat-append (take k items) (get_or items k [] ∷ [])
    ∙ ap (λ (l : List ℕ). concat (take k items) ++ l) (append-nil (get_or items k [])) in
    omega (arith, ap length more, length-append (concat (take k items)) (get_or items k []))

-- a list before and from item k on
concat_split : (items : List (List ℕ)) (k : ℕ) → concat items ≡ concat (take k items)
    ++ concat (drop k items)
concat_split items k = ap concat (sym (take-append-drop k items))
    ∙ concat-append (take k items) (drop k items)

pub place_within : (here : ℕ) (items : List (List ℕ)) (k : ℕ)
    → place here items k ≤ here + length (concat items)
place_within here items k = omega (
  arith,
  ap length (concat_split items k),
  length-append (concat (take k items)) (concat (drop k items)),
)

-- the offsets are the places
offset_is_place : (here : ℕ) (items : List (List ℕ)) (k : ℕ) → k < length items
    → get_or (offsets here items) k 0 ≡ place here items k
offset_is_place here [] k lt = absurd (omega arith)
offset_is_place here (x ∷ items) zero lt = omega arith
offset_is_place here (x ∷ items) (suc k) lt =
    offset_is_place (here + length x) items k (omega arith)
    ∙ omega (arith, length-append x (concat (take k items)))

shift : (a b c d : List ℕ) → a ++ ((b ++ c) ++ d) ≡ a ++ (b ++ (c ++ d))
shift a b c d = simp append_assoc

shift_in : (a b c d : List ℕ) → a ++ ((b ++ c) ++ d) ≡ (a ++ b) ++ (c ++ d)
shift_in a b c d = simp append_assoc

deep : (a b c d e : List ℕ) → a ++ (b ++ (c ++ (d ++ e))) ≡ ((a ++ b) ++ c ++ d) ++ e
deep a b c d e = simp append_assoc

-- the number of entry k in a list of numbers of 8 bytes each
entry_is : (whole front rest : List ℕ) (ns : List ℕ) (k at : ℕ) → whole ≡ front
    ++ (flat_map (bytes_of 8) ns ++ rest) → length front ≡ at → k < length ns
    → get_or ns k 0 < 2 ^ 64 → number_at whole (at + 8 * k) 8 ≡ get_or ns k 0
entry_is whole front rest [] k at e before lt small = absurd (omega arith)
entry_is whole front rest (n ∷ ns) zero at e before lt small =
    let here : at + 8 * 0 ≡ at = omega arith in
    rw here (number_at_in whole front (bytes_of 8 n) n (flat_map (bytes_of 8) ns ++ rest) at 8
    (e ∙ shift front (bytes_of 8 n) (flat_map (bytes_of 8) ns) rest) refl before small)
entry_is whole front rest (n ∷ ns) (suc k) at e before lt small =
    let here : at + 8 * suc k ≡ at + 8 + 8 * k = omega arith in
    let len : length (front ++ bytes_of 8 n) ≡ at + 8 =
    length-append front (bytes_of 8 n) ∙ omega arith in
    rw here (entry_is whole (front ++ bytes_of 8 n) rest ns k (at + 8)
    (e ∙ shift_in front (bytes_of 8 n) (flat_map (bytes_of 8) ns) rest) len (omega arith) small)

-- a list around its item k
around : (items : List (List ℕ)) (k : ℕ) → k < length items → concat items ≡ concat (take k items)
    ++ (get_or items k [] ++ concat (drop (k + 1) items))
around items k lt =
    concat_split items k ∙ ap (λ (l : List (List ℕ)). concat (take k items) ++ concat l)
    (drop_more items k [] lt)

pub length-offsets : (here : ℕ) (items : List (List ℕ)) → length (offsets here items) ≡ length items
length-offsets here [] = refl
length-offsets here (x ∷ items) = ap suc (length-offsets (here + length x) items)

pub length-list : (ns : List ℕ) → length (flat_map (bytes_of 8) ns) ≡ 8 * length ns
length-list [] = refl
length-list (n ∷ ns) = omega (arith, length-list ns)

-- ---- a body that fits

nonempty_at : (drivers : List (List ℕ)) (m k : ℕ) → list_all is_nonempty (take m drivers) ≡ true
    → k < m → k < length drivers → 0 < length (get_or drivers k [])
nonempty_at [] m k e below lt = absurd (omega arith)
nonempty_at (x ∷ drivers) zero k e below lt = absurd (omega arith)
nonempty_at (x ∷ drivers) (suc m) zero e below lt = ltb-true _ _ (and_parts _ _ e).0
nonempty_at (x ∷ drivers) (suc m) (suc k) e below lt =
    nonempty_at drivers m k (and_parts _ _ e).1 (omega arith) (omega arith)

-- item k of the images
image_item : (images : List Image) (k : ℕ) → AllByRecursion (λ i. IsImageHeader i.header) images
    → list_all image_fits images ≡ true → k < length images → (i : Image)
    × (get_or (map image_bytes images) k [] ≡ image_bytes i) × FitsImage i
image_item [] k widths e lt = absurd (omega arith)
image_item (i ∷ images) zero widths e lt = (i, refl, fits_image i widths.0 (and_parts _ _ e).0)
image_item (i ∷ images) (suc k) widths e lt =
    image_item images k widths.1 (and_parts _ _ e).1 (omega arith)

image_at : (images : List Image) (k : ℕ) (d : Image)
    → AllByRecursion (λ i. IsImageHeader i.header) images → list_all image_fits images ≡ true
    → k < length images → (get_or (map image_bytes images) k [] ≡ image_bytes (get_or images k d))
    × FitsImage (get_or images k d)
image_at [] k d widths e lt = absurd (omega arith)
image_at (i ∷ images) zero d widths e lt = (refl, fits_image i widths.0 (and_parts _ _ e).0)
image_at (i ∷ images) (suc k) d widths e lt =
    image_at images k d widths.1 (and_parts _ _ e).1 (omega arith)

pub record FitsBody (v : FmpValue) : Type 0 where
  pub drivers : length v.drivers < 2 ^ 16
  pub images : length v.images < 2 ^ 16
  pub nonempty : list_all is_nonempty
      (take (length v.drivers + length v.images - 1) v.drivers) ≡ true
  pub each : list_all image_fits v.images ≡ true
  pub widths : AllByRecursion (λ i. IsImageHeader i.header) v.images

fits_body : (v : FmpValue) → AllByRecursion (λ i. IsImageHeader i.header) v.images
    → fmp_fits v ≡ true → FitsBody v
fits_body v widths e =
    let a = and_parts _ _ e in
    let b = and_parts _ _ a.0 in
    let c = and_parts _ _ b.0 in
    record {
      drivers = ltb-true _ _ c.0;
      images = ltb-true _ _ c.1;
      nonempty = b.1;
      each = a.1;
      widths = widths;
    }

long_image : (i : Image) → FitsImage i → 0 < length (image_bytes i)
long_image i is =
    let rows = passed (image_header_rows (image_bytes i)) (reads_image i is).none in
    let long : 32 ≤ length (image_bytes i) = ltb-false _ _ rows.0 in
    omega arith

item_nonempty : (v : FmpValue) (k : ℕ) → FitsBody v → k + 1 < length (item_bytes v)
    → 0 < length (get_or (item_bytes v) k [])
item_nonempty v k is lt =
    let n : length (item_bytes v) ≡ length v.drivers + length v.images =
    length-append v.drivers (map image_bytes v.images)
    ∙ (let m = length-map v.images image_bytes in omega arith) in
    elim (cases_lt k (length v.drivers)) [
      | inl low ↦ rw (get_or_append_left v.drivers (map image_bytes v.images) [] k low)
          (nonempty_at v.drivers (length v.drivers + length v.images - 1) k is.nonempty
          (omega arith) low)
      | inr high ↦
          let i = image_item v.images (k - length v.drivers) is.widths is.each (omega arith) in
          rw (
            get_or-append_right v.drivers (map image_bytes v.images)
                (length v.drivers) k [] refl high,
            i.1,
          ) (long_image i.0 i.2)
    ]

-- what is read in the body of v
pub record ReadsBody (body : List ℕ) (v : FmpValue) : Type 0 where
  pub version : number_at body 0 4 ≡ 1
  pub drivers : driver_count body ≡ length v.drivers
  pub images : image_count body ≡ length v.images
  pub items : item_count body ≡ length (item_bytes v)
  pub long : length body ≡ place (8 + 8 * length (item_bytes v) + length v.lead) (item_bytes v)
      (length (item_bytes v))
  pub offset : (k : ℕ) → k < length (item_bytes v)
      → offset body k ≡ place (8 + 8 * length (item_bytes v) + length v.lead) (item_bytes v) k
  pub lead : field body (8 + 8 * length (item_bytes v)) (length v.lead) ≡ v.lead
  pub item : (k : ℕ) → k < length (item_bytes v)
      → field body (place (8 + 8 * length (item_bytes v) + length v.lead) (item_bytes v) k)
      (length (get_or (item_bytes v) k [])) ≡ get_or (item_bytes v) k []

-- the same over parts
record ReadsParts (body lead : List ℕ) (items : List (List ℕ)) (base : ℕ) : Type 0 where
  long : length body ≡ place base items (length items)
  offset : (k : ℕ) → k < length items → offset body k ≡ place base items k
  led : field body (8 + 8 * length items) (length lead) ≡ lead
  item : (k : ℕ) → k < length items
      → field body (place base items k) (length (get_or items k [])) ≡ get_or items k []

reads_parts : (body header lead : List ℕ) (items : List (List ℕ)) (base : ℕ)
    → base ≡ 8 + 8 * length items + length lead → length header ≡ 8 → body ≡ header
    ++ (flat_map (bytes_of 8) (offsets base items) ++ (lead ++ concat items)) → length body < 2 ^ 64
    → ReadsParts body lead items base
reads_parts body header lead items base base_is lh e small =
    let n = length items in
    let list = flat_map (bytes_of 8) (offsets base items) in
    let ll : length list ≡ 8 * n =
    length-list (offsets base items) ∙ ap (λ (k : ℕ). 8 * k) (length-offsets base items) in
    let total : length body ≡ base + length (concat items) =
    ap length e ∙ simp length-append (omega (arith, base_is, lh, ll)) in
    let all : place base items n ≡ base + length (concat items) =
    ap (λ (l : List (List ℕ)). base + length (concat l)) (take_all n items (omega arith)) in
    record {
      long = total ∙ sym all;
      offset = λ k lt.
          let is_place : get_or (offsets base items) k 0 ≡ place base items k =
          offset_is_place base items k lt in
          let below : place base items k ≤ base + length (concat items) =
          place_within base items k in
          let fits : get_or (offsets base items) k 0 < 2 ^ 64 =
          omega (arith, is_place, below, total, small) in
          let in_list : k < length (offsets base items) =
          omega (arith, length-offsets base items) in
          entry_is body header (lead ++ concat items) (offsets base items) k 8 e lh in_list fits
          ∙ is_place;
      led = field_in body (header ++ list) lead (concat items) (8 + 8 * n) (length lead)
          (e ∙ sym (append_assoc header list (lead ++ concat items)))
          (length-append header list
          ∙ (let s : length header + length list ≡ 8 + 8 * n = omega arith in s)) refl;
      item = λ k lt.
          let front = (header ++ list) ++ lead ++ concat (take k items) in
          let lf : length front ≡ place base items k =
          simp length-append (omega (arith, base_is, lh, ll)) in
          let split : body ≡ front ++ (get_or items k [] ++ concat (drop (k + 1) items)) =
          e ∙ ap (λ (l : List ℕ). header ++ (list ++ (lead ++ l))) (around items k lt)
          ∙ deep header list lead (concat (take k items))
          (get_or items k [] ++ concat (drop (k + 1) items)) in
          field_in body front (get_or items k []) (concat (drop (k + 1) items)) (place base items k)
          (length (get_or items k [])) split lf refl;
    }

reads_body : (v : FmpValue) → FitsBody v → length (fmp_bytes v) ≤ MAX_CAPSULE_BYTES
    → ReadsBody (fmp_bytes v) v
reads_body v is sized =
    let items = item_bytes v in
    let body = fmp_bytes v in
    let header : FmpHeader = record { drivers = length v.drivers; items = length v.images } in
    let tail = flat_map (bytes_of 8) (offsets (8 + 8 * length items + length v.lead) items)
    ++ (v.lead ++ concat items) in
    let read = header_or_ok (first_refusal (fmp_header_rows body)) (fmp_header_fields body) header
    (fmp_header_again header tail (record { drivers = is.drivers; items = is.images })) in
    let counted : length items ≡ length v.drivers + length v.images =
    length-append v.drivers (map image_bytes v.images)
    ∙ (let m = length-map v.images image_bytes in omega arith) in
    let drivers : driver_count body ≡ length v.drivers = ap (λ (h : FmpHeader). h.drivers) read.1 in
    let images : image_count body ≡ length v.images = ap (λ (h : FmpHeader). h.items) read.1 in
    let parts = reads_parts body (fmp_header_bytes header) v.lead items
    (8 + 8 * length items + length v.lead) refl refl refl (omega (arith, sized)) in
    record {
      version = eqb-true _ _ (not-false _ (passed (fmp_header_rows body) read.0).1.0);
      drivers = drivers;
      images = images;
      items = omega (arith, drivers, images, counted);
      long = parts.long;
      offset = parts.offset;
      lead = parts.led;
      item = parts.item;
    }

bound_is_place : (body : List ℕ) (v : FmpValue) (k : ℕ) → ReadsBody body v
    → k ≤ length (item_bytes v) → bound body k ≡ place (first_place v) (item_bytes v) k
bound_is_place body v k r le =
    elim (cases_lt k (length (item_bytes v))) [
      | inl low ↦ bound_is body k (omega (arith, r.items)) ∙ r.offset k low
      | inr high ↦
          let e : k ≡ length (item_bytes v) = omega arith in
          bound_ends body k (omega (arith, r.items)) ∙ r.long
          ∙ ap (place (first_place v) (item_bytes v)) (sym e)
    ]

item_is : (body : List ℕ) (v : FmpValue) (k : ℕ) → ReadsBody body v → k < length (item_bytes v)
    → item body k ≡ get_or (item_bytes v) k []
item_is body v k r lt =
    let items = item_bytes v in
    let here = bound_is_place body v k r (omega arith) in
    let next = bound_is_place body v (k + 1) r (omega arith) in
    let size : bound body (k + 1) - bound body k ≡ length (get_or items k []) =
    omega (arith, here, next, place_next (first_place v) items k lt) in
    ap (λ (n : ℕ). field body n (bound body (k + 1) - bound body k)) here
    ∙ ap (field body (place (first_place v) items k)) size ∙ r.item k lt

-- ---- read again

drivers_again : (body : List ℕ) (v : FmpValue) → ReadsBody body v
    → map (item body) (range_with_len 0 (driver_count body)) ≡ v.drivers
drivers_again body v r =
    let d = driver_count body in
    let len : length (map (item body) (range_with_len 0 d)) ≡ length v.drivers =
    length-map-range_with_len (item body) 0 d ∙ r.drivers in
    let n : length (item_bytes v) ≡ length v.drivers + length v.images =
    length-append v.drivers (map image_bytes v.images)
    ∙ (let m = length-map v.images image_bytes in omega arith) in
    ext_get_or [] (map (item body) (range_with_len 0 d)) v.drivers len (λ k lt.
    let low : k < length v.drivers = omega (arith, len) in
    get_or-map-range_with_len (item body) 0 d k k [] (omega (arith, len, r.drivers)) (omega arith)
    ∙ item_is body v k r (omega arith)
    ∙ get_or_append_left v.drivers (map image_bytes v.images) [] k low)

images_again : (body : List ℕ) (v : FmpValue) → FitsBody v → ReadsBody body v
    → map (λ k. image_of (item body k))
    (range_with_len (driver_count body) (image_count body)) ≡ v.images
images_again body v is r =
    let f : ℕ → Image = λ k. image_of (item body k) in
    let d = driver_count body in
    let i = image_count body in
    let len : length (map f (range_with_len d i)) ≡ length v.images =
    length-map-range_with_len f d i ∙ r.images in
    let n : length (item_bytes v) ≡ length v.drivers + length v.images =
    length-append v.drivers (map image_bytes v.images)
    ∙ (let m = length-map v.images image_bytes in omega arith) in
    same_lists (map f (range_with_len d i)) v.images len (λ k dflt lt.
    let low : k < length v.images = omega (arith, len) in
    let here = image_at v.images k dflt is.widths is.each low in
    let behind : length v.drivers ≤ d + k = omega (arith, r.drivers) in
    let back : d + k - length v.drivers ≡ k = omega (arith, r.drivers) in
    get_or-map-range_with_len f d i k (d + k) dflt (omega (arith, len, r.images)) refl
    ∙ ap image_of
    (item_is body v (d + k) r (omega (arith, r.drivers))
    ∙ get_or-append_right v.drivers (map image_bytes v.images) (length v.drivers)
    (d + k) [] refl behind ∙ ap (λ (j : ℕ). get_or (map image_bytes v.images) j []) back ∙ here.0)
    ∙ image_again (get_or v.images k dflt) here.1)

lead_again : (body : List ℕ) (v : FmpValue) → ReadsBody body v
    → field body (list_end body) (bound body 0 - list_end body) ≡ v.lead
lead_again body v r =
    let first : bound body 0 ≡ first_place v =
    bound_is_place body v 0 r (omega arith) ∙ omega arith in
    let end : list_end body ≡ 8 + 8 * length (item_bytes v) = omega (arith, r.items) in
    let size : bound body 0 - list_end body ≡ length v.lead = omega (arith, first, end) in
    ap (λ (n : ℕ). field body n (bound body 0 - list_end body)) end
    ∙ ap (field body (8 + 8 * length (item_bytes v))) size ∙ r.lead

abbrev body_made : List ℕ → List (List ℕ) → List Image → FmpValue
body_made l d i = record { lead = l; drivers = d; images = i }

same_body : (l l' : List ℕ) (d d' : List (List ℕ)) (i i' : List Image) → l ≡ l' → d ≡ d' → i ≡ i'
    → body_made l d i ≡ body_made l' d' i'
same_body l l' d d' i i' el ed ei = rw (el, ed, ei) refl

fmp_again : (body : List ℕ) (v : FmpValue) → FitsBody v → ReadsBody body v → fmp_of body ≡ v
fmp_again body v is r = same_body _ v.lead _ v.drivers _ v.images (lead_again body v r)
    (drivers_again body v r) (images_again body v is r)

-- ---- no row holds

offset_row : (body : List ℕ) (v : FmpValue) (at k : ℕ) → FitsBody v → ReadsBody body v
    → k < length (item_bytes v) → first_refusal (offset_rows body at k) ≡ None
offset_row body v at k is r lt =
    let items = item_bytes v in
    let here = r.offset k lt in
    let end : list_end body ≡ 8 + 8 * length items = omega (arith, r.items) in
    let behind : list_end body ≤ offset body k = omega (arith, here, end) in
    let all : place (first_place v) items (length items) ≡ first_place v + length (concat items) =
    ap (λ (l : List (List ℕ)). first_place v + length (concat l))
    (take_all (length items) items (omega arith)) in
    let within : offset body k ≤ length body =
    omega (arith, here, r.long, all, place_within (first_place v) items k) in
    let rises : (ltb 0 k && leb (offset body k) (offset body (k - 1))) ≡ false =
    elim (cases_lt 0 k) [
      | inl above ↦
          let low : k - 1 < length items = omega arith in
          let step : k - 1 + 1 ≡ k = omega arith in
          let before = r.offset (k - 1) low in
          let more : place (first_place v) items k ≡ place (first_place v) items (k - 1) + length
          (get_or items (k - 1) []) =
          ap (place (first_place v) items) (sym step)
          ∙ place_next (first_place v) items (k - 1) low in
          let some : 0 < length (get_or items (k - 1) []) =
          item_nonempty v (k - 1) is (omega arith) in
          let less : offset body (k - 1) < offset body k =
          omega (arith, here, before, more, some) in
          and_right _ _ (lt-leb _ _ less)
      | inr zero_k ↦ and_left _ _ (le-ltb 0 k zero_k)
    ] in
    none_refused (offset_rows body at k)
    (or_from _ _ (le-ltb _ _ behind) (le-ltb _ _ within), (rises, tt))

pub rows_of_body : (body : List ℕ) (v : FmpValue) (at : ℕ) → FitsBody v → ReadsBody body v
    → first_refusal (fmp_rows body at) ≡ None
rows_of_body body v at is r =
    let items = item_bytes v in
    let n : length items ≡ length v.drivers + length v.images =
    length-append v.drivers (map image_bytes v.images)
    ∙ (let m = length-map v.images image_bytes in omega arith) in
    let end : list_end body ≡ 8 + 8 * length items = omega (arith, r.items) in
    let long : list_end body ≤ length body = omega (arith, r.long, end) in
    let short : 8 ≤ length body = omega arith in
    let header : first_refusal (fmp_front_rows body at) ≡ None =
    none_refused (fmp_front_rows body at)
    (le-ltb _ _ short, (not_from_true _ (eq-eqb _ _ r.version), (le-ltb _ _ long, tt))) in
    let offsets : first_refusal (all_offset_rows body at) ≡ None =
    none_in (offset_rows body at) 0 (item_count body)
    (λ k low high. offset_row body v at k is r (omega (arith, r.items))) in
    let images : first_refusal (all_image_rows body at) ≡ None =
    none_in (λ k. image_rows (item body k) (at + bound body k)) (driver_count body)
    (image_count body) (λ k low high.
    let there : k < length items = omega (arith, r.drivers, r.images) in
    let behind : length v.drivers ≤ k = omega (arith, r.drivers) in
    let i = image_item v.images (k - length v.drivers) is.widths is.each (omega arith) in
    let e : item body k ≡ image_bytes i.0 =
    item_is body v k r there ∙ get_or-append_right v.drivers (map image_bytes v.images)
    (length v.drivers) k [] refl behind ∙ i.1 in
    ap (λ (l : List ℕ). first_refusal (image_rows l (at + bound body k))) e
    ∙ rows_of_image (image_bytes i.0) (at + bound body k) i.0 (reads_image i.0 i.2)) in
    first-none (fmp_front_rows body at) (all_offset_rows body at ++ all_image_rows body at) header
    ∙ first-none (all_offset_rows body at) (all_image_rows body at) offsets ∙ images

-- ---- a capsule

header_length : (g s f i : List ℕ) → length g ≡ 16 → length s ≡ 4 → length f ≡ 4 → length i ≡ 4
    → length (g ++ s ++ f ++ i) ≡ 28
header_length g s f i lg ls lf li = simp length-append (omega arith)

capsule_header_length : (h : CapsuleHeader) → length h.guid.bytes ≡ 16
    → length (capsule_header_bytes h) ≡ 28
capsule_header_length h lg = header_length h.guid.bytes (bytes_of 4 h.header_size)
    (bytes_of 4 h.flags) (bytes_of 4 h.image_size) lg (length-bytes_of 4 h.header_size)
    (length-bytes_of 4 h.flags) (length-bytes_of 4 h.image_size)

two_lengths : (h e b : List ℕ) (n : ℕ) → length h ≡ n
    → length (h ++ (e ++ b)) ≡ n + length e + length b
two_lengths h e b n lh = simp length-append (omega arith)

-- what is read at the front of a spelling, whatever follows it
pub record ReadsFront (whole : List ℕ) (c : Capsule) : Type 0 where
  pub none : first_refusal (capsule_rows whole) ≡ None
  pub guid : field whole 0 16 ≡ c.guid.bytes
  pub flags : number_at whole 20 4 ≡ c.flags
  pub ext : field whole 28 (header_size whole - 28) ≡ c.ext
  pub size : image_size whole ≡ length (spelling c)
  pub body : body_of whole ≡ body_bytes c.body

pub spelling_length : (c : Capsule) → length c.guid.bytes ≡ 16
    → length (spelling c) ≡ 28 + length c.ext + length (body_bytes c.body)
spelling_length c lg = two_lengths (capsule_header_bytes (header_of c)) c.ext (body_bytes c.body) 28
    (capsule_header_length (header_of c) lg)

parts_in_front : (whole h e b rest : List ℕ) → whole ≡ (h ++ (e ++ b)) ++ rest → length h ≡ 28
    → (field whole 28 (length e) ≡ e) × (field whole (28 + length e) (length b) ≡ b)
    × (length whole ≡ 28 + length e + length b + length rest)
parts_in_front whole h e b rest is lh = (
  field_in whole h e (b ++ rest) 28 (length e) (is ∙ simp append_assoc) lh refl,
  field_in whole (h ++ e) b rest (28 + length e) (length b) (is ∙ simp append_assoc)
      (simp length-append (omega arith)) refl,
  ap length is ∙ simp length-append (omega arith),
)

-- a capsule that is sized has at most as many bytes as a capsule may have
pub sized_length : (c : Capsule) → IsCapsule c → length (spelling c) ≤ MAX_CAPSULE_BYTES
sized_length c is =
    let size : 28 + length c.ext + length (body_bytes c.body) ≤ MAX_CAPSULE_BYTES =
    leb-true _ _ is.sized in
    omega (arith, size, spelling_length c is.guid)

pub reads_front : (c : Capsule) (rest : List ℕ) → IsCapsule c → ReadsFront (spelling c ++ rest) c
reads_front c rest is =
    let h = header_of c in
    let whole = spelling c ++ rest in
    let total = spelling_length c is.guid in
    let sized : length (spelling c) ≤ MAX_CAPSULE_BYTES = sized_length c is in
    let again : capsule_header (capsule_header_bytes h ++ ((c.ext ++ body_bytes c.body) ++ rest)) ≡
    Ok h =
    capsule_header_again h ((c.ext ++ body_bytes c.body) ++ rest)
    (record {
      guid = is.guid;
      flags = is.flags;
      header_size = omega arith;
      within = omega arith;
      image_size = omega (arith, total, sized);
    }) in
    let here : capsule_header whole ≡ Ok h =
    ap capsule_header (append_assoc (capsule_header_bytes h) (c.ext ++ body_bytes c.body) rest)
    ∙ again in
    let read = header_or_ok (first_refusal (capsule_header_rows whole))
    (capsule_header_fields whole) h here in
    let head : header_size whole ≡ 28 + length c.ext =
    ap (λ (x : CapsuleHeader). x.header_size) read.1 in
    let size : image_size whole ≡ 28 + length c.ext + length (body_bytes c.body) =
    ap (λ (x : CapsuleHeader). x.image_size) read.1 in
    let parts = parts_in_front whole (capsule_header_bytes h) c.ext (body_bytes c.body) rest refl
    (capsule_header_length h is.guid) in
    let rows = passed (capsule_header_rows whole) read.0 in
    let there : image_size whole ≤ length whole = omega (arith, size, parts.2) in
    let ext_size : header_size whole - 28 ≡ length c.ext = omega (arith, head) in
    let body_size : image_size whole - header_size whole ≡ length (body_bytes c.body) =
    omega (arith, head, size) in
    record {
      none = none_refused (capsule_rows whole)
          (rows.0, (rows.1.0, (or_from _ _ rows.1.1.0 (le-ltb _ _ there), tt)));
      guid = ap (λ (x : CapsuleHeader). x.guid.bytes) read.1;
      flags = ap (λ (x : CapsuleHeader). x.flags) read.1;
      ext = ap (field whole 28) ext_size ∙ parts.0;
      size = size ∙ sym total;
      body = ap (λ (n : ℕ). field whole n (image_size whole - header_size whole)) head
          ∙ ap (field whole (28 + length c.ext)) body_size ∙ parts.1;
    }

-- the body of a capsule that fits is read again, and no row of it holds
body_again : (fmp : Bool) (b : Body) (bytes : List ℕ) (at : ℕ) → body_fits fmp b ≡ true
    → HaveWidths b → bytes ≡ body_bytes b → length (body_bytes b) ≤ MAX_CAPSULE_BYTES
    → (cond fmp (Fmp (fmp_of bytes)) (Other bytes) ≡ b)
    × (first_refusal (cond fmp (fmp_rows bytes at) []) ≡ None)
body_again true (Other blob) bytes at e widths is sized = absurd cc
body_again false (Fmp v) bytes at e widths is sized = absurd cc
body_again false (Other blob) bytes at e widths is sized = (ap Other is, refl)
body_again true (Fmp v) bytes at e widths is sized =
    let good = fits_body v widths e in
    let r = reads_body v good sized in (
      ap (λ (l : List ℕ). Fmp (fmp_of l)) is ∙ ap Fmp (fmp_again (fmp_bytes v) v good r),
      ap (λ (l : List ℕ). first_refusal (fmp_rows l at)) is
          ∙ rows_of_body (fmp_bytes v) v at good r,
    )

abbrev capsule_made : List ℕ → ℕ → List ℕ → Body → Capsule
capsule_made g f e b = record { guid = record { bytes = g }; flags = f; ext = e; body = b }

same_capsule : (g g' : List ℕ) (f f' : ℕ) (e e' : List ℕ) (b b' : Body) → g ≡ g' → f ≡ f' → e ≡ e'
    → b ≡ b' → capsule_made g f e b ≡ capsule_made g' f' e' b'
same_capsule g g' f f' e e' b b' eg ef ee eb = rw (eg, ef, ee, eb) refl

module _ (c : Capsule) (rest : List ℕ) (is : IsCapsule c) where
  of_body : (cond (is_fmp_guid (field (spelling c ++ rest) 0 16))
      (Fmp (fmp_of (body_of (spelling c ++ rest)))) (Other (body_of (spelling c ++ rest))) ≡ c.body)
      × (first_refusal
      (cond (is_fmp_guid (field (spelling c ++ rest) 0 16))
      (fmp_rows (body_of (spelling c ++ rest)) (header_size (spelling c ++ rest))) []) ≡ None)
  of_body =
      let front = reads_front c rest is in
      let sized : length (spelling c) ≤ MAX_CAPSULE_BYTES = sized_length c is in
      let fits_here : body_fits (is_fmp_guid (field (spelling c ++ rest) 0 16)) c.body ≡ true =
      ap (λ (l : List ℕ). body_fits (is_fmp_guid l) c.body) front.guid ∙ is.fits in
      body_again (is_fmp_guid (field (spelling c ++ rest) 0 16)) c.body
      (body_of (spelling c ++ rest))
      (header_size (spelling c ++ rest)) fits_here is.widths front.body
      (omega (arith, sized, spelling_length c is.guid))

-- a spelling is not refused, whatever follows it
pub spelled_is_read : (c : Capsule) (rest : List ℕ) → IsCapsule c
    → refusal (spelling c ++ rest) ≡ None
spelled_is_read c rest is = first-none (capsule_rows (spelling c ++ rest))
    (cond (is_fmp_guid (field (spelling c ++ rest) 0 16))
    (fmp_rows (body_of (spelling c ++ rest)) (header_size (spelling c ++ rest))) [])
    (reads_front c rest is).none ∙ (of_body c rest is).1

-- and the capsule is read from it again
pub spelled_reads_back : (c : Capsule) (rest : List ℕ) → IsCapsule c
    → capsule_of (spelling c ++ rest) ≡ c
spelled_reads_back c rest is =
    let front = reads_front c rest is in
    same_capsule _ c.guid.bytes _ c.flags _ c.ext _ c.body front.guid front.flags front.ext
    (of_body c rest is).0

pub spelled_size : (c : Capsule) (rest : List ℕ) → IsCapsule c
    → image_size (spelling c ++ rest) ≡ length (spelling c)
spelled_size c rest is = (reads_front c rest is).size

-- ---- one spelling

pub one_capsule : (a b : Capsule) → IsCapsule a → IsCapsule b → spelling a ≡ spelling b → a ≡ b
one_capsule a b ia ib e =
    sym (spelled_reads_back a [] ia) ∙ ap (λ (l : List ℕ). capsule_of (l ++ [])) e
    ∙ spelled_reads_back b [] ib

pub no_prefix : (a b : Capsule) (rest : List ℕ) → IsCapsule a → IsCapsule b → spelling a
    ++ rest ≡ spelling b → (a ≡ b) × (rest ≡ [])
no_prefix a b rest ia ib e =
    let whole : spelling a ++ rest ≡ spelling b ++ [] = e ∙ sym (append-nil (spelling b)) in
    let sizes : length (spelling a) ≡ length (spelling b) =
    sym (spelled_size a rest ia) ∙ ap image_size whole ∙ spelled_size b [] ib in
    let long : length (spelling a) + length rest ≡ length (spelling b) =
    sym (length-append (spelling a) rest) ∙ ap length e in (
      sym (spelled_reads_back a rest ia) ∙ ap capsule_of whole ∙ spelled_reads_back b [] ib,
      nil_from_length rest (omega arith),
    )
