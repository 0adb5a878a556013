-- The image header: what is written is read again, and what is read is written back.
use Rattle.std.proofs.Common.{◌≡◌, ℕ, ◌+◌, ◌^◌, ◌<◌, ◌≤◌, true, false, cond, not, ◌&&◌, ◌||◌, eqb}
use Rattle.std.proofs.Common.{List, [], ◌∷◌, ◌++◌, length, get_or, take, None, Ok, refl, sym, ap}
use Rattle.std.proofs.Common.{subst, ◌∙◌, ◌⊎◌, inl, inr, arith, append_assoc, length-append}
use Rattle.std.proofs.lemmas.Bool.{ltb-false, le-ltb, or_cases, both_ways, and_parts, eqb-true}
use Rattle.std.proofs.lemmas.Bool.{not-false, not-true, not_from_true, cond-true, cond-false}
use Rattle.std.proofs.lemmas.Bool.{cases_Bool}
use Rattle.std.proofs.lemmas.List.{append-nil, get_or_at}
use Rattle.cu_base.specs.Fields.{field, number_at, bytes_of}
use Rattle.cu_base.specs.Refusals.{first_refusal}
use Rattle.cu_base.specs.Bytes.{IsBytes}
use Rattle.fmp_headers.specs.ImageHeader.{image_header, image_header_rows, image_header_fields}
use Rattle.fmp_headers.specs.ImageHeader.{image_header_bytes, image_header_size, image_version}
use Rattle.fmp_headers.specs.ImageHeader.{is_image_version, keeps_version_rules, IsImageHeader}
use Rattle.fmp_headers.specs.declared.image.ImageHeader.{ImageHeader}
use Rattle.cu_base.proofs.Rows.{passed, none_refused}
use Rattle.fmp_headers.proofs.Headers.{header_or_ok, header_given}
use Rattle.cu_base.proofs.Fields.{length-bytes_of, length-field, number_at_in, field_in}
use Rattle.cu_base.proofs.Fields.{number_at-below, next_number, next_field, next_byte}

-- the three versions
pub versions : (v : ℕ) → is_image_version v ≡ true → (v ≡ 1) ⊎ ((v ≡ 2) ⊎ (v ≡ 3))
versions v e =
    elim (or_cases _ _ e) [
      | inl low ↦ elim (or_cases _ _ low)
          [ inl one ↦ inl (eqb-true v 1 one) | inr two ↦ inr (inl (eqb-true v 2 two)) ]
      | inr three ↦ inr (inr (eqb-true v 3 three))
    ]

-- what stands behind the 32 bytes that each version has
abbrev pub instance_bytes : ℕ → ℕ → List ℕ
instance_bytes v n = cond (eqb v 1) [] (bytes_of 8 n)

abbrev pub support_bytes : ℕ → ℕ → List ℕ
support_bytes v n = cond (eqb v 3) (bytes_of 8 n) []

tail_size : (v n u : ℕ) → (v ≡ 1) ⊎ ((v ≡ 2) ⊎ (v ≡ 3))
    → 32 + length (instance_bytes v n) + length (support_bytes v u) ≡ image_header_size v
tail_size v n u (inl e) = rw e refl
tail_size v n u (inr (inl e)) = rw e refl
tail_size v n u (inr (inr e)) = rw e refl

abbrev made : ℕ → List ℕ → ℕ → List ℕ → ℕ → ℕ → ℕ → ℕ → ImageHeader
made version type_id index reserved image_size vendor_size instance support =
    record {
      version = version;
      type_id = record { bytes = type_id };
      index = index;
      reserved = reserved;
      image_size = image_size;
      vendor_size = vendor_size;
      instance =
          instance;
      support = support;
    }

same_made : (a a' : ℕ) (b b' : List ℕ) (c c' : ℕ) (d d' : List ℕ) (e e' f f' g g' h h' : ℕ) → a ≡ a'
    → b ≡ b' → c ≡ c' → d ≡ d' → e ≡ e' → f ≡ f' → g ≡ g' → h ≡ h'
    → made a b c d e f g h ≡ made a' b' c' d' e' f' g' h'
same_made a a' b b' c c' d d' e e' f f' g g' h h' ea eb ec ed ee ef eg eh =
    rw (ea, eb, ec, ed, ee, ef, eg, eh) refl

-- ---- back

tail_back : (bytes front : List ℕ) (v : ℕ) → IsBytes bytes → (v ≡ 1) ⊎ ((v ≡ 2) ⊎ (v ≡ 3))
    → image_header_size v ≤ length bytes → front ≡ take 32 bytes → front
    ++ instance_bytes v (cond (eqb v 1) 0 (number_at bytes 32 8))
    ++ support_bytes v (cond (eqb v 3) (number_at bytes 40 8) 1) ≡ take (image_header_size v) bytes
tail_back bytes front v is (inl e) long so_far =
    rw e (append-nil (front ++ []) ∙ append-nil front ∙ so_far)
tail_back bytes front v is (inr (inl e)) long so_far =
    let size : 40 ≤ length bytes = rw e at long in
    rw e (append-nil (front ++ bytes_of 8 (number_at bytes 32 8))
    ∙ next_number bytes front 32 8 is size so_far)
tail_back bytes front v is (inr (inr e)) long so_far =
    let size : 48 ≤ length bytes = rw e at long in
    rw e (next_number bytes (front ++ bytes_of 8 (number_at bytes 32 8)) 40 8 is size
    (next_number bytes front 32 8 is (omega arith) so_far))

fields_back : (bytes : List ℕ) → IsBytes bytes → first_refusal (image_header_rows bytes) ≡ None
    → image_header_bytes (image_header_fields bytes) ≡ take
    (image_header_size (image_version bytes)) bytes
fields_back bytes is none =
    let rows = passed (image_header_rows bytes) none in
    let long : 32 ≤ length bytes = ltb-false _ _ rows.0 in
    let known = versions (image_version bytes) (not-false _ rows.1.0) in
    let size : image_header_size (image_version bytes) ≤ length bytes = ltb-false _ _ rows.1.1.0 in
    let front : bytes_of 4 (image_version bytes) ≡ take 4 bytes =
    next_number bytes [] 0 4 is (omega arith) refl in
    let to_32 =
    next_number bytes _ 28 4 is (omega arith)
    (next_number bytes _ 24 4 is (omega arith)
    (next_field bytes _ 21 3
    (next_byte bytes _ 20 (omega arith)
    (next_field bytes _ 4 16 front)))) in
    tail_back bytes _ (image_version bytes) is known size to_32

pub image_header_back : (bytes : List ℕ) (h : ImageHeader) → IsBytes bytes
    → image_header bytes ≡ Ok h → image_header_bytes h ≡ take (image_header_size h.version) bytes
image_header_back bytes h is e =
    let o = header_or_ok (first_refusal (image_header_rows bytes))
    (image_header_fields bytes) h e in
    subst (λ (x : ImageHeader). image_header_bytes x ≡ take (image_header_size x.version) bytes) o.1
    (fields_back bytes is o.0)

-- the parts of the rules of a version
rules_of : (h : ImageHeader) → keeps_version_rules h ≡ true → (is_image_version h.version ≡ true)
    × (eqb h.version 1 ≡ true → h.instance ≡ 0) × (eqb h.version 3 ≡ false → h.support ≡ 1)
rules_of h e =
    let outer = and_parts _ _ e in
    let inner = and_parts _ _ outer.0 in (
      inner.0,
      λ one. elim (or_cases _ _ inner.1) [
        | inl other ↦ absurd (both_ways _ (not-true _ other) one)
        | inr zero ↦ eqb-true _ _ zero
      ],
      λ low. elim (or_cases _ _ outer.1)
          [ inl three ↦ absurd (both_ways _ low three) | inr one ↦ eqb-true _ _ one ],
    )

kept_rules : (v i s : ℕ) → is_image_version v ≡ true
    → ((is_image_version v && (not (eqb v 1) || eqb (cond (eqb v 1) 0 i) 0)) &&
    (eqb v 3 || eqb (cond (eqb v 3) s 1) 1)) ≡ true
kept_rules v i s known =
    elim (versions v known) [
      | inl e ↦ rw e refl
      | inr (inl e) ↦ rw e refl
      | inr (inr e) ↦ rw e refl
    ]

instance_below : (bytes : List ℕ) (v : ℕ) → IsBytes bytes → (v ≡ 1) ⊎ ((v ≡ 2) ⊎ (v ≡ 3))
    → image_header_size v ≤ length bytes → cond (eqb v 1) 0 (number_at bytes 32 8) < 2 ^ 64
instance_below bytes v is (inl e) long = rw e (omega arith)
instance_below bytes v is (inr (inl e)) long = let size : 40 ≤ length bytes =
    rw e at long in rw e (number_at-below bytes 32 8 is size)
instance_below bytes v is (inr (inr e)) long = let size : 48 ≤ length bytes =
    rw e at long in rw e (number_at-below bytes 32 8 is (omega arith))

support_below : (bytes : List ℕ) (v : ℕ) → IsBytes bytes → (v ≡ 1) ⊎ ((v ≡ 2) ⊎ (v ≡ 3))
    → image_header_size v ≤ length bytes → cond (eqb v 3) (number_at bytes 40 8) 1 < 2 ^ 64
support_below bytes v is (inl e) long = rw e (omega arith)
support_below bytes v is (inr (inl e)) long = rw e (omega arith)
support_below bytes v is (inr (inr e)) long = let size : 48 ≤ length bytes =
    rw e at long in rw e (number_at-below bytes 40 8 is size)

fields_are : (bytes : List ℕ) → IsBytes bytes → first_refusal (image_header_rows bytes) ≡ None
    → IsImageHeader (image_header_fields bytes)
fields_are bytes is none =
    let rows = passed (image_header_rows bytes) none in
    let long : 32 ≤ length bytes = ltb-false _ _ rows.0 in
    let known = not-false _ rows.1.0 in
    let size : image_header_size (image_version bytes) ≤ length bytes = ltb-false _ _ rows.1.1.0 in
    record {
      type_id = length-field bytes 4 16 (omega arith);
      index = is 20;
      reserved = length-field bytes 21 3 (omega arith);
      image_size = number_at-below bytes 24 4 is (omega arith);
      vendor_size = number_at-below bytes 28 4 is (omega arith);
      instance = instance_below bytes (image_version bytes) is
          (versions (image_version bytes) known) size;
      support = support_below bytes (image_version bytes) is
          (versions (image_version bytes) known) size;
      rules = kept_rules (image_version bytes) (number_at bytes 32 8) (number_at bytes 40 8) known;
    }

pub image_header_kept : (bytes : List ℕ) (h : ImageHeader) → IsBytes bytes
    → image_header bytes ≡ Ok h → IsImageHeader h
image_header_kept bytes h is e =
    let o = header_or_ok (first_refusal (image_header_rows bytes))
    (image_header_fields bytes) h e in
    subst IsImageHeader o.1 (fields_are bytes is o.0)

-- ---- again

byte_in : (whole p : List ℕ) (x : ℕ) (r : List ℕ) (at : ℕ) → whole ≡ p ++ x ∷ r → length p ≡ at
    → get_or whole at 0 ≡ x
byte_in whole p x r at e before = rw e (get_or_at p x r 0 at before)

instance_at : (b p n u rest : List ℕ) (v i : ℕ) → b ≡ (p ++ n ++ u) ++ rest → length p ≡ 32
    → n ≡ instance_bytes v i → i < 2 ^ 64 → (eqb v 1 ≡ true → i ≡ 0)
    → cond (eqb v 1) 0 (number_at b 32 8) ≡ i
instance_at b p n u rest v i e lp is below one =
    elim (cases_Bool (eqb v 1)) [
      | inl holds ↦ cond-true _ _ _ holds ∙ sym (one holds)
      | inr fails ↦ cond-false _ _ _ fails
          ∙ number_at_in b p n i (u ++ rest) 32 8 (e ∙ simp append_assoc)
          (is ∙ cond-false _ _ _ fails) lp below
    ]

support_at : (b p n u rest : List ℕ) (v i s : ℕ) → b ≡ (p ++ n ++ u) ++ rest → length p ≡ 32
    → n ≡ instance_bytes v i → u ≡ support_bytes v s → s < 2 ^ 64 → (eqb v 3 ≡ false → s ≡ 1)
    → cond (eqb v 3) (number_at b 40 8) 1 ≡ s
support_at b p n u rest v i s e lp in_n in_u below low =
    elim (cases_Bool (eqb v 3)) [
      | inr fails ↦ cond-false _ _ _ fails ∙ sym (low fails)
      | inl holds ↦
          let three : v ≡ 3 = eqb-true v 3 holds in
          let ln : length n ≡ 8 = ap length in_n ∙ rw three refl in
          cond-true _ _ _ holds
          ∙ number_at_in b (p ++ n) u s rest 40 8 (e ∙ simp append_assoc)
          (in_u ∙ cond-true _ _ _ holds) (simp length-append (omega arith)) below
    ]

image_parts : (b v t x r s w n u rest : List ℕ) (h : ImageHeader) → IsImageHeader h
    → b ≡ (v ++ t ++ x ++ r ++ s ++ w ++ n ++ u) ++ rest
    → v ≡ bytes_of 4 h.version → t ≡ h.type_id.bytes → x ≡ h.index ∷ [] → r ≡ h.reserved
    → s ≡ bytes_of 4 h.image_size → w ≡ bytes_of 4 h.vendor_size
    → n ≡ instance_bytes h.version h.instance → u ≡ support_bytes h.version h.support
    → image_header b ≡ Ok h
image_parts b v t x r s w n u rest h is e ev et ex er es ew en eu =
    let rules = rules_of h is.rules in
    let known = versions h.version rules.0 in
    let lv : length v ≡ 4 = ap length ev ∙ length-bytes_of 4 h.version in
    let lt : length t ≡ 16 = ap length et ∙ is.type_id in
    let lx : length x ≡ 1 = ap length ex in
    let lr : length r ≡ 3 = ap length er ∙ is.reserved in
    let ls : length s ≡ 4 = ap length es ∙ length-bytes_of 4 h.image_size in
    let lw : length w ≡ 4 = ap length ew ∙ length-bytes_of 4 h.vendor_size in
    let ends : 32 + length n + length u ≡ image_header_size h.version =
    rw (en, eu) (tail_size h.version h.instance h.support known) in
    let long : length b ≡ image_header_size h.version + length rest =
    rw e (simp length-append (omega arith)) in
    let front : length (v ++ t ++ x ++ r ++ s ++ w) ≡ 32 = simp length-append (omega arith) in
    let small : h.version < 256 ^ 4 =
    elim known
    [ inl one ↦ omega arith | inr (inl two) ↦ omega arith | inr (inr three) ↦ omega arith ] in
    let version : number_at b 0 4 ≡ h.version =
    number_at_in b [] v h.version (t ++ (x ++ (r ++ (s ++ (w ++ (n ++ (u ++ rest))))))) 0 4
    (e ∙ simp append_assoc) ev refl small in
    let type_id : field b 4 16 ≡ h.type_id.bytes =
    field_in b v t (x ++ (r ++ (s ++ (w ++ (n ++ (u ++ rest)))))) 4 16 (e ∙ simp append_assoc) lv lt
    ∙ et in
    let at_index : b ≡ (v ++ t) ++ h.index ∷ (r ++ (s ++ (w ++ (n ++ (u ++ rest))))) =
    e ∙ rw ex (simp append_assoc) in
    let index : get_or b 20 0 ≡ h.index =
    byte_in b (v ++ t) h.index (r ++ (s ++ (w ++ (n ++ (u ++ rest))))) 20 at_index
    (simp length-append (omega arith)) in
    let reserved : field b 21 3 ≡ h.reserved =
    field_in b (v ++ t ++ x) r (s ++ (w ++ (n ++ (u ++ rest)))) 21 3 (e ∙ simp append_assoc)
    (simp length-append (omega arith)) lr ∙ er in
    let image_size : number_at b 24 4 ≡ h.image_size =
    number_at_in b (v ++ t ++ x ++ r) s h.image_size (w ++ (n ++ (u ++ rest))) 24 4
    (e ∙ simp append_assoc) es (simp length-append (omega arith)) is.image_size in
    let vendor_size : number_at b 28 4 ≡ h.vendor_size =
    number_at_in b (v ++ t ++ x ++ r ++ s) w h.vendor_size (n ++ (u ++ rest)) 28 4
    (e ∙ simp append_assoc) ew (simp length-append (omega arith)) is.vendor_size in
    let instance : cond (eqb h.version 1) 0 (number_at b 32 8) ≡ h.instance =
    instance_at b (v ++ t ++ x ++ r ++ s ++ w) n u rest h.version h.instance e front en is.instance
    rules.1 in
    let support : cond (eqb h.version 3) (number_at b 40 8) 1 ≡ h.support =
    support_at b (v ++ t ++ x ++ r ++ s ++ w) n u rest h.version h.instance h.support e front en eu
    is.support rules.2 in
    let known_here : is_image_version (number_at b 0 4) ≡ true = rw version rules.0 in
    let size_here : image_header_size (number_at b 0 4) ≤ length b = rw version (omega arith) in
    let instance_here : cond (eqb (number_at b 0 4) 1) 0 (number_at b 32 8) ≡ h.instance =
    rw version instance in
    let support_here : cond (eqb (number_at b 0 4) 3) (number_at b 40 8) 1 ≡ h.support =
    rw version support in
    let long_enough : 32 ≤ length b = omega arith in
    header_given (first_refusal (image_header_rows b)) (image_header_fields b) h
    (none_refused (image_header_rows b)
    (le-ltb _ _ long_enough, (not_from_true _ known_here, (le-ltb _ _ size_here, tt))))
    (same_made _ _ _ _ _ _ _ _ _ _ _ _ _ _ _ _ version type_id index reserved image_size vendor_size
    instance_here support_here)

pub image_header_again : (h : ImageHeader) (rest : List ℕ) → IsImageHeader h
    → image_header (image_header_bytes h ++ rest) ≡ Ok h
image_header_again h rest is = image_parts (image_header_bytes h ++ rest)
    (bytes_of 4 h.version) h.type_id.bytes (h.index ∷ []) h.reserved (bytes_of 4 h.image_size)
    (bytes_of 4 h.vendor_size) (instance_bytes h.version h.instance)
    (support_bytes h.version h.support) rest h is refl refl refl refl refl refl refl refl refl

-- ---- the length of a layout

length_parts : (v t x r s w n u : List ℕ) (k : ℕ) → length v ≡ 4 → length t ≡ 16 → length x ≡ 1
    → length r ≡ 3 → length s ≡ 4 → length w ≡ 4 → 32 + length n + length u ≡ k
    → length (v ++ t ++ x ++ r ++ s ++ w ++ n ++ u) ≡ k
length_parts v t x r s w n u k lv lt lx lr ls lw ends = simp length-append (omega arith)

pub length-layout : (h : ImageHeader) → length h.type_id.bytes ≡ 16 → length h.reserved ≡ 3
    → keeps_version_rules h ≡ true → length (image_header_bytes h) ≡ image_header_size h.version
length-layout h type_id reserved rules =
    length_parts (bytes_of 4 h.version) h.type_id.bytes (h.index ∷ []) h.reserved
    (bytes_of 4 h.image_size) (bytes_of 4 h.vendor_size) (instance_bytes h.version h.instance)
    (support_bytes h.version h.support) (image_header_size h.version)
    refl type_id refl reserved refl refl
    (tail_size h.version h.instance h.support (versions h.version (rules_of h rules).0))

pub length-image_header_bytes : (h : ImageHeader) → IsImageHeader h
    → length (image_header_bytes h) ≡ image_header_size h.version
length-image_header_bytes h is = length-layout h is.type_id is.reserved is.rules
