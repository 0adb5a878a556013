-- Thin deliveries are the spellings of thin capsules.
use Rattle.std.proofs.Common.{◌≡◌, ℕ, ◌+◌, ◌-◌, ◌≤◌, true, cond, eqb, List, [], ◌∷◌, ◌++◌, length}
use Rattle.std.proofs.Common.{suc, option_map, get_or, drop, map, None, Some, refl, sym, ap, subst, ◌∙◌, inl, inr}
use Rattle.std.proofs.Common.{arith, append-nil}
use Rattle.std.specs.List.{range_with_len}
use Rattle.std.proofs.lemmas.Bool.{le-ltb, or_from, eq-eqb, not_from_true, cases_Bool, cond-true}
use Rattle.std.proofs.lemmas.Bool.{cond-false}
use Rattle.std.proofs.lemmas.List.{length-drop, take_all, get_or-drop, nil_from_length}
use Rattle.std.proofs.lemmas.List.FromFn.{length-map-range_with_len}
use Rattle.std.proofs.lemmas.Slice.Eq.{bytes_eq-Decides}
use Rattle.cu_base.specs.Fields.{field, number_at}
use Rattle.cu_base.specs.Refusals.{first_refusal}
use Rattle.cu_base.specs.declared.limits.TheConstants.{MAX_CAPSULE_BYTES}
use Rattle.cu_base.specs.Bytes.{IsBytes}
use Rattle.fmp_headers.specs.CapsuleHeader.{header_size, image_size}
use Rattle.fmp_headers.specs.ImageHeader.{image_version, is_image_version, image_header_size}
use Rattle.cu_base.proofs.Rows.{none_refused}
use Rattle.cu_base.proofs.Fields.{length-field}
use Rattle.capsule_grammar.specs.declared.value.Image.{Image}
use Rattle.capsule_grammar.specs.declared.value.Body.TheVariants.{Other, Fmp}
use Rattle.capsule_grammar.specs.declared.value.Capsule.{Capsule}
use Rattle.capsule_grammar.specs.Refusals.{refusal, capsule_rows, is_fmp_guid, body_of, fmp_rows}
use Rattle.capsule_grammar.specs.Refusals.{fmp_front_rows, offset_rows, all_offset_rows}
use Rattle.capsule_grammar.specs.Refusals.{all_image_rows, image_rows, image_parts_size}
use Rattle.capsule_grammar.specs.Refusals.{driver_count, image_count, item_count, list_end, offset}
use Rattle.capsule_grammar.specs.Refusals.{bound, item}
use Rattle.capsule_grammar.specs.Accepted.{IsImageItem, IsFmpBody}
use Rattle.capsule_grammar.specs.Spelling.{spelling}
use Rattle.capsule_grammar.specs.Fits.{IsCapsule}
use Rattle.capsule_grammar.specs.CapsulesOf.{capsules_within}
use Rattle.capsule_grammar.specs.Reading.{image_of, fmp_of, body_read, capsule_of}
use Rattle.cu_base.proofs.Rows.{first-none, none_in}
use Rattle.capsule_grammar.proofs.Offsets.{bound_is, bound_ends}
use Rattle.capsule_grammar.proofs.Read.{read_is_capsule, read_is_spelled, fmp_case, front_of}
use Rattle.capsule_grammar.proofs.Spelled.{spelled_is_read, spelled_reads_back, spelled_size}
use Rattle.capsule_grammar.proofs.Spelled.{sized_length}
use Rattle.reference_machine.specs.Deliveries.{fmp_guid}
use Rattle.reference_machine.specs.Formats as machine
use Rattle.delivery_formats.specs.TrueFormats.{true_formats}
use Rattle.reset_play.specs.Thin.{is_thin, thin_item, thin_capsule}
use Rattle.reset_play.proofs.ThinLemmas.{one_byte, item_read}
use Rattle.reset_play.specs.ThinCapsules.{IsThinImage, IsThinFmp, IsThinBody, IsThinCapsule}
use Rattle.delivery_formats.specs.Seen.{machine_item, machine_body, machine_capsule}
use Rattle.reset_play.proofs.ThinPlaces.{number_behind, field_behind, field_to_end}
use Rattle.reset_play.proofs.ThinPlaces.{AreThinNumbers, numbers_of, thin_by, body_behind}
use Rattle.reset_play.proofs.ThinPlaces.{IsThinPlaced, IsThinItem, body_numbers, item_numbers}
use Rattle.reset_play.proofs.ThinPlaces.{item_behind, numbers_by}

-- ---- the item

-- header, update image and vendor code are the whole item
parts_are_all : (i : List ℕ) → IsThinItem i → image_parts_size i ≡ length i
parts_are_all i is = ap (λ (v : ℕ). image_header_size v + number_at i 24 4 + number_at i 28 4)
    is.version ∙ is.parts

drop_all : (xs : List ℕ) (n : ℕ) → n ≡ length xs → drop n xs ≡ []
drop_all xs n e = nil_from_length (drop n xs) (omega (arith, length-drop n xs, e))

rows_of_item : (i : List ℕ) (at : ℕ) → IsThinItem i → first_refusal (image_rows i at) ≡ None
rows_of_item i at is =
    let size : image_header_size (image_version i) ≡ 48 = ap image_header_size is.version in
    let known : is_image_version (image_version i) ≡ true = ap is_image_version is.version in
    let all = parts_are_all i is in
    none_refused (image_rows i at) (
      le-ltb _ _ (omega (arith, is.parts)),
      (
        not_from_true _ known,
        (
          le-ltb _ _ (omega (arith, is.parts, size)),
          (le-ltb _ _ (omega (arith, all)), tt),
        ),
      ),
    )

support_of : (v s : ℕ) → v ≡ 3 → cond (eqb v 3) s 1 ≡ s
support_of v s e = rw e refl

instance_of : (v n : ℕ) → v ≡ 3 → cond (eqb v 1) 0 n ≡ n
instance_of v n e = rw e refl

thin_image_of : (i : List ℕ) → IsThinItem i → IsThinImage (image_of i)
thin_image_of i is = record {
  version = is.version;
  support = support_of (image_version i) (number_at i 40 8) is.version ∙ is.support;
  pad = drop_all i (image_parts_size i) (parts_are_all i is);
}

-- and back
thin_item_of : (i : List ℕ) → IsImageItem i → IsThinImage (image_of i) → IsThinItem i
thin_item_of i good thin =
    let size : image_parts_size i ≡ 48 + number_at i 24 4 + number_at i 28 4 =
    ap (λ (v : ℕ). image_header_size v + number_at i 24 4 + number_at i 28 4) thin.version in
    let rest : length i - image_parts_size i ≡ 0 = sym (length-drop (image_parts_size i) i)
    ∙ ap length thin.pad in
    record {
      version = thin.version;
      support = sym (support_of (image_version i) (number_at i 40 8) thin.version) ∙ thin.support;
      parts = omega (arith, size, rest, good.parts);
    }

-- ---- the body

first_item : (body : List ℕ) → item_count body ≡ 1 → offset body 0 ≡ 16 → item body 0 ≡ drop 16 body
first_item body one first =
    let begins : bound body 0 ≡ 16 = bound_is body 0 (omega (arith, one)) ∙ first in
    let ends : bound body 1 ≡ length body = bound_ends body 1 (omega (arith, one)) in
    ap (λ (n : ℕ). field body n (bound body 1 - n)) begins
    ∙ ap (λ (n : ℕ). field body 16 (n - 16)) ends ∙ field_to_end body 16

one_of : {X : Type 0} (f : ℕ → X) (d i : ℕ) → d ≡ 0 → i ≡ 1 → map f (range_with_len d i) ≡ f 0 ∷ []
one_of f d i ed ei = rw (ed, ei) refl

none_of : {X : Type 0} (f : ℕ → X) (d : ℕ) → d ≡ 0 → map f (range_with_len 0 d) ≡ []
none_of f d e = rw e refl

count_is : (body : List ℕ) → IsThinPlaced body → item_count body ≡ 1
count_is body is = omega (arith, is.drivers, is.images)

item_is : (body : List ℕ) → IsThinPlaced body → item body 0 ≡ drop 16 body
item_is body is = first_item body (count_is body is) is.offset

drivers_are : (body : List ℕ) → IsThinPlaced body → (fmp_of body).drivers ≡ []
drivers_are body is = none_of (item body) (driver_count body) is.drivers

images_are : (body : List ℕ) → IsThinPlaced body
    → (fmp_of body).images ≡ image_of (drop 16 body) ∷ []
images_are body is = one_of (λ k. image_of (item body k)) (driver_count body) (image_count body)
    is.drivers is.images ∙ ap (λ (l : List ℕ). image_of l ∷ []) (item_is body is)

no_lead : (body : List ℕ) (a b : ℕ) → b - a ≡ 0 → field body a (b - a) ≡ []
no_lead body a b e = rw e refl

offset_row : (body : List ℕ) (at : ℕ) → IsThinPlaced body
    → first_refusal (offset_rows body at 0) ≡ None
offset_row body at is =
    let one = count_is body is in
    let first : offset body 0 ≡ 16 = is.offset in
    let low : list_end body ≤ offset body 0 = omega (arith, first, one) in
    let high : offset body 0 ≤ length body = omega (arith, first, is.long) in
    none_refused (offset_rows body at 0) (
      or_from _ _ (le-ltb _ _ low) (le-ltb _ _ high),
      (refl, tt),
    )

rows_of_body : (body : List ℕ) (at : ℕ) → IsThinPlaced body → IsThinItem (drop 16 body)
    → first_refusal (fmp_rows body at) ≡ None
rows_of_body body at is thin =
    let one = count_is body is in
    let short : 8 ≤ length body = omega (arith, is.long) in
    let long : list_end body ≤ length body = omega (arith, is.long, one) in
    let header : first_refusal (fmp_front_rows body at) ≡ None =
    none_refused (fmp_front_rows body at)
    (le-ltb _ _ short, (not_from_true _ (eq-eqb _ _ is.version), (le-ltb _ _ long, tt))) in
    let offsets : first_refusal (all_offset_rows body at) ≡ None =
    none_in (offset_rows body at) 0 (item_count body) (λ k low high.
    let same : 0 ≡ k = omega (arith, one) in
    subst (λ (j : ℕ). first_refusal (offset_rows body at j) ≡ None) same (offset_row body at is)) in
    let first : first_refusal (image_rows (item body 0) (at + bound body 0)) ≡ None =
    ap (λ (l : List ℕ). first_refusal (image_rows l (at + bound body 0))) (item_is body is)
    ∙ rows_of_item (drop 16 body) (at + bound body 0) thin in
    let images : first_refusal (all_image_rows body at) ≡ None =
    none_in (λ k. image_rows (item body k) (at + bound body k)) (driver_count body)
    (image_count body) (λ k low high.
    let same : 0 ≡ k = omega (arith, is.drivers, is.images) in
    subst (λ (j : ℕ). first_refusal (image_rows (item body j) (at + bound body j)) ≡ None) same
    first) in
    first-none (fmp_front_rows body at) (all_offset_rows body at ++ all_image_rows body at) header
    ∙ first-none (all_offset_rows body at) (all_image_rows body at) offsets ∙ images

thin_fmp_of : (body : List ℕ) → IsThinPlaced body → IsThinItem (drop 16 body)
    → IsThinFmp (fmp_of body)
thin_fmp_of body is thin =
    let one = count_is body is in
    let begins : bound body 0 ≡ 16 = bound_is body 0 (omega (arith, one)) ∙ is.offset in
    record {
      lead = no_lead body (list_end body) (bound body 0) (omega (arith, begins, one));
      drivers = drivers_are body is;
      image = image_of (drop 16 body);
      images = images_are body is;
      thin = thin_image_of (drop 16 body) thin;
    }

same_head : (d a b : Image) → a ∷ [] ≡ b ∷ [] → a ≡ b
same_head d a b e = ap (λ (l : List Image). get_or l 0 d) e

-- and back
thin_body_of : (body : List ℕ) → IsFmpBody body → IsThinFmp (fmp_of body) → IsThinPlaced body
    × IsThinItem (drop 16 body)
thin_body_of body good thin =
    let d : driver_count body ≡ 0 =
    sym (length-map-range_with_len (item body) 0 (driver_count body))
    ∙ ap length thin.drivers in
    let n : image_count body ≡ 1 =
    sym (length-map-range_with_len (λ k. image_of (item body k)) (driver_count body)
    (image_count body)) ∙ ap length thin.images in
    let one : item_count body ≡ 1 = omega (arith, d, n) in
    let behind : list_end body ≤ bound body 0 = good.bounds.behind 0 (omega arith) in
    let within : bound body 0 ≤ length body = good.bounds.within 0 (omega arith) in
    let led : bound body 0 - list_end body ≡ 0 =
    sym (length-field body (list_end body) (bound body 0 - list_end body)
    (omega (arith, behind, within))) ∙ ap length thin.lead in
    let first : offset body 0 ≡ bound body 0 = sym (bound_is body 0 (omega (arith, one))) in
    let begins : offset body 0 ≡ 16 = omega (arith, first, led, behind, one) in
    let here : item body 0 ≡ drop 16 body = first_item body one begins in
    let alone : (fmp_of body).images ≡ image_of (item body 0) ∷ [] =
    one_of (λ k. image_of (item body k)) (driver_count body) (image_count body) d n in
    let image : thin.image ≡ image_of (item body 0) =
    same_head thin.image thin.image (image_of (item body 0)) (sym thin.images ∙ alone) in
    let is_item : IsImageItem (item body 0) =
    good.images 0 (omega (arith, d)) (omega (arith, one)) in
    let is_thin_item : IsThinItem (item body 0) =
    thin_item_of (item body 0) is_item (subst IsThinImage image thin.thin) in (
      record {
        version = good.version;
        drivers = d;
        images = n;
        offset = begins;
        long =
            omega (arith, good.long, one);
      },
      subst IsThinItem here is_thin_item,
    )

-- ---- the capsule

module _ (b : List ℕ) (n : AreThinNumbers b) where
  body_here : body_of b ≡ drop 28 b
  body_here = body_behind b n.header_size n.size

  placed : IsThinPlaced (body_of b)
  placed = subst IsThinPlaced (sym body_here) (body_numbers b n)

  in_item : IsThinItem (drop 16 (body_of b))
  in_item = subst (λ (l : List ℕ). IsThinItem (drop 16 l)) (sym body_here)
      (subst IsThinItem (sym (item_behind b)) (item_numbers b n))

  fmp_read : body_read b ≡ Fmp (fmp_of (body_of b))
  fmp_read = cond-true (is_fmp_guid (field b 0 16)) (Fmp (fmp_of (body_of b))) (Other (body_of b))
      n.guid

  thin_is_accepted : refusal b ≡ None
  thin_is_accepted =
      let head : header_size b ≡ 28 = n.header_size in
      let size : image_size b ≡ length b = n.size in
      let long : 28 ≤ length b = omega (arith, n.parts) in
      let low : 28 ≤ header_size b = omega (arith, head) in
      let within : header_size b ≤ image_size b = omega (arith, head, size, long) in
      let limit : image_size b ≤ MAX_CAPSULE_BYTES = omega (arith, size, n.small) in
      let there : image_size b ≤ length b = omega (arith, size) in
      let front : first_refusal (capsule_rows b) ≡ None =
      none_refused (capsule_rows b) (
        le-ltb _ _ long,
        (
          or_from _ _ (le-ltb _ _ low) (le-ltb _ _ within),
          (or_from _ _ (le-ltb _ _ limit) (le-ltb _ _ there), tt),
        ),
      ) in
      first-none (capsule_rows b) (cond (is_fmp_guid (field b 0 16))
      (fmp_rows (body_of b) (header_size b)) []) front
      ∙ ap first_refusal (cond-true (is_fmp_guid (field b 0 16))
      (fmp_rows (body_of b) (header_size b)) [] n.guid)
      ∙ rows_of_body (body_of b) (header_size b) placed in_item

  thin_is_read : IsThinCapsule (capsule_of b)
  thin_is_read = record {
    ext = no_lead b 28 (header_size b) (omega (arith, n.header_size));
    body = subst IsThinBody (sym fmp_read) (thin_fmp_of (body_of b) placed in_item);
  }

-- thin bytes spell a thin capsule
pub thin_is_spelled : (bytes : List ℕ) → IsBytes bytes → is_thin bytes ≡ true
    → (c : Capsule) × IsCapsule c × IsThinCapsule c × (spelling c ≡ bytes)
thin_is_spelled bytes is on =
    let n = numbers_of bytes on in
    let none = thin_is_accepted bytes n in (
      capsule_of bytes,
      read_is_capsule bytes is none,
      thin_is_read bytes n,
      read_is_spelled bytes is none ∙ take_all (image_size bytes) bytes (omega (arith, n.size)),
    )

-- bytes that are not refused and hold a thin capsule alone are thin
numbers_read : (b : List ℕ) → length b ≤ MAX_CAPSULE_BYTES → refusal b ≡ None
    → image_size b ≡ length b → IsThinCapsule (capsule_of b) → AreThinNumbers b
numbers_read b small none size thin =
    let front = front_of b none in
    let more : header_size b - 28 ≡ 0 =
    sym (length-field b 28 (header_size b - 28)
    (omega (arith, front.low, front.within, front.there))) ∙ ap length thin.ext in
    let head : header_size b ≡ 28 = omega (arith, more, front.low) in
    elim (cases_Bool (is_fmp_guid (field b 0 16))) [
      | inl fmp ↦
          let body =
          subst IsThinBody (cond-true (is_fmp_guid (field b 0 16)) (Fmp (fmp_of (body_of b)))
          (Other (body_of b)) fmp) thin.body in
          let parts = thin_body_of (body_of b) (fmp_case b none fmp) body in
          let here = body_behind b head size in
          numbers_by b small fmp head size (subst IsThinPlaced here parts.0)
          (subst IsThinItem (item_behind b)
          (subst (λ (l : List ℕ). IsThinItem (drop 16 l)) here parts.1))
      | inr other ↦ absurd
          (subst IsThinBody (cond-false (is_fmp_guid (field b 0 16)) (Fmp (fmp_of (body_of b)))
          (Other (body_of b)) other) thin.body)
    ]

capsule_again : (c : Capsule) → IsCapsule c → capsule_of (spelling c) ≡ c
capsule_again c is = ap capsule_of (sym (append-nil (spelling c))) ∙ spelled_reads_back c [] is

-- the spelling of a thin capsule has the numbers of a thin delivery
numbers_spelled : (c : Capsule) → IsCapsule c → IsThinCapsule c → AreThinNumbers (spelling c)
numbers_spelled c is thin =
    let whole : spelling c ++ [] ≡ spelling c = append-nil (spelling c) in
    let none : refusal (spelling c) ≡ None = ap refusal (sym whole) ∙ spelled_is_read c [] is in
    let size : image_size (spelling c) ≡ length (spelling c) = ap image_size (sym whole)
    ∙ spelled_size c [] is in
    numbers_read (spelling c) (sized_length c is) none size (subst IsThinCapsule (sym (capsule_again c is)) thin)

pub spelled_is_thin : (c : Capsule) → IsCapsule c → IsThinCapsule c → is_thin (spelling c) ≡ true
spelled_is_thin c is thin = thin_by (spelling c) (numbers_spelled c is thin)

-- ---- what the machine sees

abbrev seen : ℕ → List ℕ → ℕ → ℕ → ℕ → List ℕ → machine.Item
seen v t x n s i =
    record {
      head = record {
        version = v;
        type_id = record { bytes = t };
        index = x;
        instance =
            n;
        support = s;
      };
      image = i;
    }

same_seen : (v v' : ℕ) (t : List ℕ) (x n n' s s' : ℕ) (i i' : List ℕ) → v ≡ v' → n ≡ n' → s ≡ s'
    → i ≡ i' → seen v t x n s i ≡ seen v' t x n' s' i'
same_seen v v' t x n n' s s' i i' ev en es ei = rw (ev, en, es, ei) refl

item_seen : (b : List ℕ) → AreThinNumbers b → machine_item (image_of (drop 44 b)) ≡ thin_item b
item_seen b n =
    let i = drop 44 b in
    let is = item_numbers b n in
    let instance : cond (eqb (image_version i) 1) 0 (number_at i 32 8) ≡ number_at b 76 8 =
    instance_of (image_version i) (number_at i 32 8) is.version ∙ number_behind b 44 32 8 in
    let support : cond (eqb (image_version i) 3) (number_at i 40 8) 1 ≡ 0 =
    support_of (image_version i) (number_at i 40 8) is.version ∙ is.support in
    let image : field i (image_header_size (image_version i)) (number_at i 24 4)
    ≡ field b 92 (number_at b 68 4) =
    ap (λ (v : ℕ). field i (image_header_size v) (number_at i 24 4)) is.version
    ∙ ap (field i 48) (number_behind b 44 24 4) ∙ field_behind b 44 48 (number_at b 68 4) in
    let index : get_or i 20 0 ≡ number_at b 64 1 = get_or-drop 44 b 20 0
    ∙ one_byte b 64 0 (omega (arith, n.parts)) in
    same_seen (image_version i) 3 (field i 4 16) (get_or i 20 0) _ (number_at b 76 8) _ 0 _
    (field b 92 (number_at b 68 4)) is.version instance support image
    ∙ item_read b (record { bytes = field i 4 16 }) (get_or i 20 0) (number_at b 76 8)
    (field b 92 (number_at b 68 4)) (field_behind b 44 4 16) index refl refl

abbrev capsule_seen : List ℕ → ℕ → List machine.Item → machine.Capsule
capsule_seen g d l = record { guid = record { bytes = g }; drivers = d; items = l }

same_capsule : (g g' : List ℕ) (d d' : ℕ) (l l' : List machine.Item) → g ≡ g' → d ≡ d' → l ≡ l'
    → capsule_seen g d l ≡ capsule_seen g' d' l'
same_capsule g g' d d' l l' eg ed el = rw (eg, ed, el) refl

-- of a thin delivery the machine sees the FMP GUID, no driver and the one item
seen_of : (b : List ℕ) → AreThinNumbers b → machine_capsule (capsule_of b)
    ≡ capsule_seen fmp_guid.bytes 0 (thin_item b ∷ [])
seen_of b n =
    let body = body_of b in
    let guid : field b 0 16 ≡ fmp_guid.bytes =
    (bytes_eq-Decides (field b 0 16) fmp_guid.bytes).0 n.guid in
    let items : map machine_item (fmp_of body).images ≡ thin_item b ∷ [] =
    ap (map machine_item) (images_are body (placed b n))
    ∙ ap (λ (l : List ℕ). machine_item (image_of l) ∷ []) (ap (drop 16) (body_here b n)
    ∙ item_behind b) ∙ ap (λ (i : machine.Item). i ∷ []) (item_seen b n) in
    ap (machine_body (record { bytes = field b 0 16 })) (fmp_read b n)
    ∙ same_capsule (field b 0 16) fmp_guid.bytes (length (fmp_of body).drivers) 0
    (map machine_item (fmp_of body).images) (thin_item b ∷ []) guid
    (ap length (drivers_are body (placed b n))) items

one_capsule : (n : ℕ) (b : List ℕ) → refusal b ≡ None → image_size b ≡ length b
    → capsules_within (suc n) b ≡ Some (capsule_of b ∷ [])
unfolding capsules_within
one_capsule n b none size = rw (none, eq-eqb (image_size b) (length b) size) refl

-- what a boot reads of a thin delivery is the one thin capsule
pub thin_is_seen : (bytes : List ℕ) → is_thin bytes ≡ true
    → true_formats.capsules bytes ≡ Some (thin_capsule bytes ∷ [])
thin_is_seen bytes on =
    let n = numbers_of bytes on in
    ap (option_map (map machine_capsule))
    (one_capsule 7 bytes (thin_is_accepted bytes n) n.size)
    ∙ ap (λ (m : machine.Capsule). Some (m ∷ [])) (seen_of bytes n)
