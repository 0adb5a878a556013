-- What is cut is spelled: the parts at their places, one behind another, are the image.
use Rattle.std.proofs.Common.{◌≡◌, ℕ, ◌+◌, ◌-◌, ◌≤◌, Bool, true, false, cond, List, [], ◌++◌}
use Rattle.std.proofs.Common.{length, take, drop, Some, None, is_some, IfSome, refl, sym, ap, subst}
use Rattle.std.proofs.Common.{◌∙◌, arith, append_assoc}
use Rattle.std.proofs.lemmas.Bool.{ltb-false, or_parts, not-false, eqb-true}
use Rattle.std.proofs.lemmas.List.{take-append-drop}
use Rattle.std.proofs.lemmas.Slice.Eq.{bytes_eq-Decides}
use Rattle.cu_base.specs.Fields.{field, number_at, bytes_of}
use Rattle.cu_base.specs.Refusals.{first_refusal}
use Rattle.cu_base.specs.Bytes.{IsBytes}
use Rattle.cu_base.proofs.Fields.{IsBytes-drop, length-field, next_field, next_number}
use Rattle.cu_base.proofs.Fields.{number_at-below}
use Rattle.cu_base.proofs.Rows.{passed}
use Rattle.image_parts.specs.Cuts.{IsCutInto, auth_end, behind_section}
use Rattle.image_parts.specs.Parts.{IsPartsOf, auth_bytes, dep_bytes}
use Rattle.image_parts.specs.PayloadHeader.{IsPayloadHead, header_size, payload_head_at}
use Rattle.image_parts.specs.PayloadHeader.{payload_head_bytes, payload_header_rows, signature}
use Rattle.image_parts.specs.Section.{IsOneSection, TakesSection}
use Rattle.image_parts.specs.Support.{has_authentication, has_section}
use Rattle.image_parts.specs.Values.{PartsValue}
use Rattle.image_parts.specs.Authentication.{IsAuthentication, authentication_at}
use Rattle.image_parts.specs.Authentication.{authentication_bytes, authentication_rows}
use Rattle.image_parts.specs.Authentication.{authentication_size, certificate_size}

-- what holds of authentication data that no row refuses
pub record IsSound (image : List ℕ) : Type 0 where
  pub long : 32 ≤ length image
  pub low : 24 ≤ certificate_size image
  pub within : authentication_size image ≤ length image
  pub revision : number_at image 12 2 ≡ 0x0200
  pub kind : number_at image 14 2 ≡ 0x0EF1

pub sound : (image : List ℕ) → first_refusal (authentication_rows image) ≡ None → IsSound image
sound image e =
    let r = passed (authentication_rows image) e in
    let bad = or_parts _ _ r.1.0 in
    record {
      long = ltb-false _ _ r.0;
      low = ltb-false _ _ bad.0;
      within = ltb-false _ _ bad.1;
      revision = eqb-true _ _ (not-false _ r.1.1.0);
      kind = eqb-true _ _ (not-false _ r.1.1.1.0);
    }

certificate_length : (image : List ℕ) → IsSound image
    → 24 + length (authentication_at image).cert ≡ certificate_size image
certificate_length image h =
    let size : length (field image 32 (authentication_size image - 32)) ≡ authentication_size image
    - 32 = length-field image 32 (authentication_size image - 32)
    (omega (arith, h.low, h.within)) in
    omega (arith, size, h.low)

abbrev written : ℕ → ℕ → ℕ → ℕ → List ℕ → List ℕ → List ℕ
written m l r k t c = bytes_of 8 m ++ bytes_of 4 l ++ bytes_of 2 r ++ bytes_of 2 k ++ t ++ c

same_written : (m l l' r r' k k' : ℕ) (t c : List ℕ) → l ≡ l' → r ≡ r' → k ≡ k'
    → written m l r k t c ≡ written m l' r' k' t c
same_written m l l' r r' k k' t c el er ek = rw (el, er, ek) refl

authentication_spelled : (image : List ℕ) → IsBytes image → IsSound image
    → authentication_bytes (authentication_at image) ≡ take (authentication_size image) image
authentication_spelled image is h =
    let size : 24 + length (authentication_at image).cert ≡ number_at image 8 4 =
    certificate_length image h in
    let end : 32 + (authentication_size image - 32) ≡ authentication_size image =
    omega (arith, h.low) in
    let m = next_number image [] 0 8 is (omega (arith, h.long)) refl in
    let l = next_number image _ 8 4 is (omega (arith, h.long)) m in
    let r = next_number image _ 12 2 is (omega (arith, h.long)) l in
    let k = next_number image _ 14 2 is (omega (arith, h.long)) r in
    let t = next_field image _ 16 16 k in
    let c = next_field image _ 32 (authentication_size image - 32) t in
    same_written (number_at image 0 8) _ _ _ _ _ _ (field image 16 16)
    (field image 32 (authentication_size image - 32)) size (sym h.revision) (sym h.kind) ∙ c
    ∙ ap (λ (n : ℕ). take n image) end

is_authentication : (image : List ℕ) → IsBytes image → IsSound image
    → IsAuthentication (authentication_at image)
is_authentication image is h = record {
  monotonic = number_at-below image 0 8 is (omega (arith, h.long));
  cert_type = length-field image 16 16 (omega (arith, h.long));
  cert = omega
      (arith, certificate_length image h, number_at-below image 8 4 is (omega (arith, h.long)));
}

-- ---- authentication data that may be due

pub auth_is : (due : Bool) (image : List ℕ) → IsBytes image
    → first_refusal (cond due (authentication_rows image) []) ≡ None
    → auth_bytes (cond due (Some (authentication_at image)) None) ≡ take
    (cond due (authentication_size image) 0) image
auth_is true image is e = authentication_spelled image is (sound image e)
auth_is false image is e = refl

auth_fits : (due : Bool) (image : List ℕ) → IsBytes image
    → first_refusal (cond due (authentication_rows image) []) ≡ None
    → IfSome (cond due (Some (authentication_at image)) None) IsAuthentication
auth_fits true image is e = is_authentication image is (sound image e)
auth_fits false image is e = tt

there_where_due : {A : Type 0} (due : Bool) (x : A) → is_some (cond due (Some x) None) ≡ due
there_where_due true x = refl
there_where_due false x = refl

-- ---- a section that may be due

pub dep_is : (due : Bool) (image : List ℕ) (start size : ℕ) → TakesSection due (drop start image) size
    → dep_bytes (cond due (Some (field image start size)) None) ≡ field image start size
dep_is true image start size h = refl
dep_is false image start size h = rw h refl

dep_fits : (due : Bool) (image : List ℕ) (start size : ℕ) → TakesSection due (drop start image) size
    → IfSome (cond due (Some (field image start size)) None) IsOneSection
dep_fits true image start size h = h.section
dep_fits false image start size h = tt

-- ---- the payload header

-- what holds of a payload header that no row refuses
record IsSoundHead (rest : List ℕ) : Type 0 where
  pub long : 16 ≤ length rest
  pub letters : field rest 0 4 ≡ signature
  pub low : 16 ≤ header_size rest
  pub within : header_size rest ≤ length rest

sound_head : (rest : List ℕ) (at : ℕ) → first_refusal (payload_header_rows rest at) ≡ None
    → IsSoundHead rest
sound_head rest at e =
    let r = passed (payload_header_rows rest at) e in
    let bad = or_parts _ _ r.1.1.0 in
    record {
      long = ltb-false _ _ r.0;
      letters = (bytes_eq-Decides _ _).0 (not-false _ r.1.0);
      low = ltb-false _ _ bad.0;
      within = ltb-false _ _ bad.1;
    }

is_payload_head : (rest : List ℕ) → IsBytes rest → IsSoundHead rest
    → IsPayloadHead (payload_head_at rest) (field rest 16 (header_size rest - 16))
is_payload_head rest is h = record {
  header_size = omega
      (arith, length-field rest 16 (header_size rest - 16) (omega (arith, h.low, h.within)), h.low);
  width = number_at-below rest 4 4 is (omega (arith, h.long));
  version = number_at-below rest 8 4 is (omega (arith, h.long));
  lowest = number_at-below rest 12 4 is (omega (arith, h.long));
}

head_spelled : (rest : List ℕ) → IsBytes rest → IsSoundHead rest
    → payload_head_bytes (payload_head_at rest) ++ field rest 16 (header_size rest - 16)
    ++ drop (header_size rest) rest ≡ rest
head_spelled rest is h =
    let end : 16 + (header_size rest - 16) ≡ header_size rest = omega (arith, h.low) in
    let s = next_number rest signature 4 4 is (omega (arith, h.long)) (sym h.letters) in
    let v = next_number rest _ 8 4 is (omega (arith, h.long)) s in
    let l = next_number rest _ 12 4 is (omega (arith, h.long)) v in
    let e = next_field rest _ 16 (header_size rest - 16) l in
    ap (λ (front : List ℕ). front ++ drop (header_size rest) rest)
    (e ∙ ap (λ (n : ℕ). take n rest) end) ∙ take-append-drop (header_size rest) rest

-- ---- the image

regroup : (f h e p : List ℕ) → f ++ h ++ e ++ p ≡ f ++ (h ++ e ++ p)
regroup f h e p = ap (λ (l : List ℕ). l ++ p) (append_assoc f h e) ∙ append_assoc f (h ++ e) p

whole : (image auth dep head extra payload : List ℕ) (start size : ℕ) → auth ≡ take start image
    → dep ≡ field image start size → head ++ extra ++ payload ≡ drop (start + size) image → auth
    ++ dep ++ head ++ extra ++ payload ≡ image
whole image auth dep head extra payload start size ea ed er =
    let front : auth ++ dep ≡ take (start + size) image =
    rw ed (next_field image auth start size ea) in
    regroup (auth ++ dep) head extra payload
    ∙ ap (λ (l : List ℕ). l ++ (head ++ extra ++ payload)) front
    ∙ ap (λ (l : List ℕ). take (start + size) image ++ l) er
    ∙ take-append-drop (start + size) image

pub cut_is_parts : (image : List ℕ) (support : ℕ) (p : PartsValue) → IsBytes image
    → IsCutInto image support p → IsPartsOf image support p
cut_is_parts image support p is c =
    let start = auth_end image support in
    let rest = behind_section image support c.size in
    let rest_is = IsBytes-drop (start + c.size) image is in
    let head = sound_head rest (start + c.size) c.head in
    subst (λ (x : PartsValue). IsPartsOf image support x) (sym c.parts) (record {
      whole = sym
          (whole image _ _ _ _ _ start c.size (auth_is (has_authentication support) image is c.auth)
          (dep_is (has_section support) image start c.size c.section)
          (head_spelled rest rest_is head));
      auth = there_where_due (has_authentication support) (authentication_at image);
      authentication = auth_fits (has_authentication support) image is c.auth;
      dep = there_where_due (has_section support) (field image start c.size);
      section = dep_fits (has_section support) image start c.size c.section;
      head = is_payload_head rest rest_is head;
    })
