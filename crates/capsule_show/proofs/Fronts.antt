-- What is read at the front of bytes that are not refused.
use Rattle.std.proofs.Common.{◌≡◌, ℕ, ◌+◌, ◌-◌, true, List, length, codes, None, ap, sym, refl, ◌∙◌, subst}
use Rattle.std.proofs.Common.{arith}
use Rattle.std.proofs.lemmas.List.FromFn.{length-map-range_with_len}
use Rattle.cu_base.specs.Bytes.{IsBytes}
use Rattle.cu_base.specs.Fields.{field}
use Rattle.cu_base.proofs.Fields.{length-field}
use Rattle.fmp_headers.specs.CapsuleHeader.{capsule_header_fields, header_size, image_size}
use Rattle.fmp_headers.specs.declared.capsule.CapsuleHeader.{CapsuleHeader}
use Rattle.capsule_grammar.specs.Accepted.{IsFmpBody}
use Rattle.capsule_grammar.specs.Reading.{capsule_of, fmp_of, image_of}
use Rattle.capsule_grammar.specs.Refusals.{body_of, driver_count, image_count, is_fmp_guid, item}
use Rattle.capsule_grammar.specs.Refusals.{refusal}
use Rattle.capsule_grammar.specs.Spelling.{header_of}
use Rattle.capsule_grammar.proofs.Read.{fmp_case, front_of, read_length}
use Rattle.capsule_grammar.proofs.Spelled.{spelling_length}
use Rattle.capsule_show.specs.Lines.{count_words, fmp_line, line}

abbrev with_sizes : CapsuleHeader → ℕ → ℕ → CapsuleHeader
with_sizes h a b = record { guid = h.guid; header_size = a; flags = h.flags; image_size = b }

same_sizes : (h : CapsuleHeader) (a b : ℕ) → a ≡ h.header_size → b ≡ h.image_size
    → with_sizes h a b ≡ h
same_sizes h a b ea eb = rw (ea, eb) refl

-- the header of the capsule that is read is that of the bytes
pub header_read : (bytes : List ℕ) → IsBytes bytes → refusal bytes ≡ None
    → header_of (capsule_of bytes) ≡ capsule_header_fields bytes
header_read bytes is e =
    let front = front_of bytes e in
    let long : length (capsule_of bytes).ext ≡ header_size bytes - 28 =
    length-field bytes 28 (header_size bytes - 28)
    (omega (arith, front.low, front.within, front.there)) in
    let guid = length-field bytes 0 16 (omega (arith, front.long)) in
    let size = read_length bytes is e in
    let parts = spelling_length (capsule_of bytes) guid in
    same_sizes (capsule_header_fields bytes) _ _ (omega (arith, long, front.low))
    (omega (arith, parts, size))

-- a body of an FMP capsule is one
pub is_body : (bytes body : List ℕ) → body ≡ body_of bytes → refusal bytes ≡ None
    → is_fmp_guid (field bytes 0 16) ≡ true → IsFmpBody body
is_body bytes body same e fmp = subst IsFmpBody (sym same) (fmp_case bytes e fmp)

-- the counts of a body
pub counts_told : (body : List ℕ) (drivers images lead : ℕ) → drivers ≡ driver_count body
    → images ≡ image_count body → lead ≡ length (fmp_of body).lead
    → line (codes "fmp") (count_words drivers images lead) ≡ fmp_line (fmp_of body)
counts_told body drivers images lead ed ei el =
    let d : drivers ≡ length (fmp_of body).drivers =
    ed ∙ sym (length-map-range_with_len (item body) 0 (driver_count body)) in
    let i : images ≡ length (fmp_of body).images =
    ei ∙ sym (length-map-range_with_len (λ (k : ℕ). image_of (item body k)) (driver_count body)
    (image_count body)) in
    ap (λ (n : ℕ). line (codes "fmp") (count_words n images lead)) d
    ∙ ap (λ (n : ℕ). line (codes "fmp") (count_words (length (fmp_of body).drivers) n lead)) i
    ∙ ap (λ (n : ℕ). line (codes "fmp")
    (count_words (length (fmp_of body).drivers) (length (fmp_of body).images) n)) el
