-- The capsule header and the FMP header: what is written is read again, and what is read is written
-- back.
use Rattle.std.proofs.Common.{◌≡◌, ℕ, ◌≤◌, List, [], ◌++◌, length, take, Option, Some, None, Ok}
use Rattle.std.proofs.Common.{refl, sym, ap, subst, ◌∙◌, arith, append_assoc, length-append}
use Rattle.std.proofs.lemmas.Bool.{ltb-false, le-ltb, or_parts, or_from, eqb-true, eq-eqb}
use Rattle.std.proofs.lemmas.Bool.{not-false, not_from_true}
use Rattle.cu_base.specs.Fields.{field, number_at, bytes_of}
use Rattle.cu_base.specs.Refusals.{first_refusal}
use Rattle.cu_base.specs.declared.limits.TheConstants.{MAX_CAPSULE_BYTES}
use Rattle.cu_base.specs.Bytes.{IsBytes}
use Rattle.fmp_headers.specs.CapsuleHeader.{capsule_header, capsule_header_rows}
use Rattle.fmp_headers.specs.CapsuleHeader.{capsule_header_fields, capsule_header_bytes, header_or}
use Rattle.fmp_headers.specs.CapsuleHeader.{IsCapsuleHeader}
use Rattle.fmp_headers.specs.FmpHeader.{fmp_header, fmp_header_rows, fmp_header_fields}
use Rattle.fmp_headers.specs.FmpHeader.{fmp_header_bytes, IsFmpHeader}
use Rattle.fmp_headers.specs.declared.capsule.CapsuleHeader.{CapsuleHeader}
use Rattle.fmp_headers.specs.declared.fmp.FmpHeader.{FmpHeader}
use Rattle.fmp_headers.specs.declared.faults.HeaderFault.{HeaderFault}
use Rattle.cu_base.proofs.Rows.{passed, none_refused}
use Rattle.cu_base.proofs.Fields.{length-bytes_of, length-field, number_at_in, field_in}
use Rattle.cu_base.proofs.Fields.{number_at-below, next_number}

pub header_or_ok : {H : Type 0} (refusal : Option HeaderFault) (x h : H)
    → header_or refusal x ≡ Ok h → (refusal ≡ None) × (x ≡ h)
header_or_ok None x h e = (refl, cc)
header_or_ok (Some r) x h e = absurd cc

-- a table of which no row holds gives the fields
pub header_given : {H : Type 0} (refusal : Option HeaderFault) (x h : H) → refusal ≡ None → x ≡ h
    → header_or refusal x ≡ Ok h
header_given None x h none same = ap Ok same
header_given (Some r) x h none same = absurd cc

-- ---- the capsule header

abbrev capsule_made : List ℕ → ℕ → ℕ → ℕ → CapsuleHeader
capsule_made guid header_size flags image_size =
    record {
      guid = record { bytes = guid };
      header_size = header_size;
      flags = flags;
      image_size = image_size;
    }

same_capsule : (g g' : List ℕ) (s s' f f' i i' : ℕ) → g ≡ g' → s ≡ s' → f ≡ f' → i ≡ i'
    → capsule_made g s f i ≡ capsule_made g' s' f' i'
same_capsule g g' s s' f f' i i' eg es ef ei = rw (eg, es, ef, ei) refl

capsule_header_at : (b : List ℕ) (h : CapsuleHeader) → IsCapsuleHeader h → 28 ≤ length b
    → field b 0 16 ≡ h.guid.bytes → number_at b 16 4 ≡ h.header_size → number_at b 20 4 ≡ h.flags
    → number_at b 24 4 ≡ h.image_size → capsule_header b ≡ Ok h
capsule_header_at b h is long guid header_size flags image_size =
    let low : 28 ≤ number_at b 16 4 = omega (arith, is.header_size, header_size) in
    let within : number_at b 16 4 ≤ number_at b 24 4 =
    omega (arith, is.within, header_size, image_size) in
    let high : number_at b 24 4 ≤ MAX_CAPSULE_BYTES = omega (arith, is.image_size, image_size) in
    header_given (first_refusal (capsule_header_rows b)) (capsule_header_fields b) h
    (none_refused (capsule_header_rows b)
    (le-ltb _ _ long, (or_from _ _ (le-ltb _ _ low) (le-ltb _ _ within), (le-ltb _ _ high, tt))))
    (same_capsule (field b 0 16) h.guid.bytes (number_at b 16 4) h.header_size
    (number_at b 20 4) h.flags (number_at b 24 4) h.image_size guid header_size flags image_size)

capsule_parts : (b g s f i rest : List ℕ) (h : CapsuleHeader) → IsCapsuleHeader h
    → b ≡ (g ++ s ++ f ++ i) ++ rest → g ≡ h.guid.bytes → s ≡ bytes_of 4 h.header_size
    → f ≡ bytes_of 4 h.flags → i ≡ bytes_of 4 h.image_size → capsule_header b ≡ Ok h
capsule_parts b g s f i rest h is e eg es ef ei =
    let lg : length g ≡ 16 = ap length eg ∙ is.guid in
    let ls : length s ≡ 4 = ap length es ∙ length-bytes_of 4 h.header_size in
    let lf : length f ≡ 4 = ap length ef ∙ length-bytes_of 4 h.flags in
    let li : length i ≡ 4 = ap length ei ∙ length-bytes_of 4 h.image_size in
    let long : 28 ≤ length b = rw e (simp length-append (omega arith)) in
    let guid : field b 0 16 ≡ h.guid.bytes =
    field_in b [] g (s ++ (f ++ (i ++ rest))) 0 16 (e ∙ simp append_assoc) refl lg ∙ eg in
    let header_size : number_at b 16 4 ≡ h.header_size =
    number_at_in b g s h.header_size (f ++ (i ++ rest)) 16 4 (e ∙ simp append_assoc) es lg
    (omega (arith, is.within, is.image_size)) in
    let flags : number_at b 20 4 ≡ h.flags =
    number_at_in b (g ++ s) f h.flags (i ++ rest) 20 4 (e ∙ simp append_assoc) ef
    (simp length-append (omega arith)) is.flags in
    let image_size : number_at b 24 4 ≡ h.image_size =
    number_at_in b (g ++ s ++ f) i h.image_size rest 24 4 (e ∙ simp append_assoc) ei
    (simp length-append (omega arith)) (omega (arith, is.image_size)) in
    capsule_header_at b h is long guid header_size flags image_size

pub capsule_header_again : (h : CapsuleHeader) (rest : List ℕ) → IsCapsuleHeader h
    → capsule_header (capsule_header_bytes h ++ rest) ≡ Ok h
capsule_header_again h rest is =
    capsule_parts (capsule_header_bytes h ++ rest) h.guid.bytes (bytes_of 4 h.header_size)
    (bytes_of 4 h.flags) (bytes_of 4 h.image_size) rest h is refl refl refl refl refl

pub capsule_header_back : (bytes : List ℕ) (h : CapsuleHeader) → IsBytes bytes
    → capsule_header bytes ≡ Ok h → capsule_header_bytes h ≡ take 28 bytes
capsule_header_back bytes h is e =
    let o = header_or_ok (first_refusal (capsule_header_rows bytes))
    (capsule_header_fields bytes) h e in
    let long : 28 ≤ length bytes = ltb-false _ _ (passed (capsule_header_rows bytes) o.0).0 in
    let guid : field bytes 0 16 ≡ take 16 bytes = refl in
    ap capsule_header_bytes (sym o.1)
    ∙ next_number bytes _ 24 4 is long
    (next_number bytes _ 20 4 is (omega arith)
    (next_number bytes _ 16 4 is (omega arith) guid))

fields_are : (bytes : List ℕ) → IsBytes bytes → first_refusal (capsule_header_rows bytes) ≡ None
    → IsCapsuleHeader (capsule_header_fields bytes)
fields_are bytes is none =
    let rows = passed (capsule_header_rows bytes) none in
    let long : 28 ≤ length bytes = ltb-false _ _ rows.0 in
    let sizes = or_parts _ _ rows.1.0 in
    record {
      guid = length-field bytes 0 16 (omega arith);
      flags = number_at-below bytes 20 4 is (omega arith);
      header_size = ltb-false _ _ sizes.0;
      within = ltb-false _ _ sizes.1;
      image_size = ltb-false _ _ rows.1.1.0;
    }

pub capsule_header_kept : (bytes : List ℕ) (h : CapsuleHeader) → IsBytes bytes
    → capsule_header bytes ≡ Ok h → IsCapsuleHeader h
capsule_header_kept bytes h is e =
    let o = header_or_ok (first_refusal (capsule_header_rows bytes))
    (capsule_header_fields bytes) h e in
    subst IsCapsuleHeader o.1 (fields_are bytes is o.0)

-- ---- the FMP header

abbrev fmp_made : ℕ → ℕ → FmpHeader
fmp_made drivers items = record { drivers = drivers; items = items }

same_fmp : (d d' i i' : ℕ) → d ≡ d' → i ≡ i' → fmp_made d i ≡ fmp_made d' i'
same_fmp d d' i i' ed ei = rw (ed, ei) refl

fmp_parts : (b v d i rest : List ℕ) (h : FmpHeader) → IsFmpHeader h → b ≡ (v ++ d ++ i) ++ rest
    → v ≡ bytes_of 4 1 → d ≡ bytes_of 2 h.drivers → i ≡ bytes_of 2 h.items → fmp_header b ≡ Ok h
fmp_parts b v d i rest h is e ev ed ei =
    let lv : length v ≡ 4 = ap length ev ∙ length-bytes_of 4 1 in
    let ld : length d ≡ 2 = ap length ed ∙ length-bytes_of 2 h.drivers in
    let li : length i ≡ 2 = ap length ei ∙ length-bytes_of 2 h.items in
    let long : 8 ≤ length b = rw e (simp length-append (omega arith)) in
    let version : number_at b 0 4 ≡ 1 =
    number_at_in b [] v 1 (d ++ (i ++ rest)) 0 4 (e ∙ simp append_assoc) ev refl (omega arith) in
    let drivers : number_at b 4 2 ≡ h.drivers =
    number_at_in b v d h.drivers (i ++ rest) 4 2 (e ∙ simp append_assoc) ed lv is.drivers in
    let items : number_at b 6 2 ≡ h.items =
    number_at_in b (v ++ d) i h.items rest 6 2 (e ∙ simp append_assoc) ei
    (simp length-append (omega arith)) is.items in
    header_given (first_refusal (fmp_header_rows b)) (fmp_header_fields b) h
    (none_refused (fmp_header_rows b) (le-ltb _ _ long, (not_from_true _ (eq-eqb _ _ version), tt)))
    (same_fmp (number_at b 4 2) h.drivers (number_at b 6 2) h.items drivers items)

pub fmp_header_again : (h : FmpHeader) (rest : List ℕ) → IsFmpHeader h
    → fmp_header (fmp_header_bytes h ++ rest) ≡ Ok h
fmp_header_again h rest is = fmp_parts (fmp_header_bytes h ++ rest) (bytes_of 4 1)
    (bytes_of 2 h.drivers) (bytes_of 2 h.items) rest h is refl refl refl refl

pub fmp_header_back : (bytes : List ℕ) (h : FmpHeader) → IsBytes bytes → fmp_header bytes ≡ Ok h
    → fmp_header_bytes h ≡ take 8 bytes
fmp_header_back bytes h is e =
    let o = header_or_ok (first_refusal (fmp_header_rows bytes)) (fmp_header_fields bytes) h e in
    let rows = passed (fmp_header_rows bytes) o.0 in
    let long : 8 ≤ length bytes = ltb-false _ _ rows.0 in
    let version : number_at bytes 0 4 ≡ 1 = eqb-true _ _ (not-false _ rows.1.0) in
    let front : bytes_of 4 1 ≡ take 4 bytes =
    ap (bytes_of 4) (sym version) ∙ next_number bytes [] 0 4 is (omega arith) refl in
    ap fmp_header_bytes (sym o.1)
    ∙ next_number bytes _ 6 2 is long
    (next_number bytes _ 4 2 is (omega arith) front)

pub fmp_header_kept : (bytes : List ℕ) (h : FmpHeader) → IsBytes bytes → fmp_header bytes ≡ Ok h
    → IsFmpHeader h
fmp_header_kept bytes h is e =
    let o = header_or_ok (first_refusal (fmp_header_rows bytes)) (fmp_header_fields bytes) h e in
    let long : 8 ≤ length bytes = ltb-false _ _ (passed (fmp_header_rows bytes) o.0).0 in
    subst IsFmpHeader o.1
    (record {
      drivers = number_at-below bytes 4 2 is (omega arith);
      items = number_at-below bytes 6 2 is (omega arith);
    })
