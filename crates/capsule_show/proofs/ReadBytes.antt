-- The capsule that is read from bytes has a text.
use Rattle.std.proofs.Common.{ℕ, zero, suc, ◌+◌, ◌-◌, List, map, inl, inr}
use Rattle.std.specs.List.{AllByRecursion, range_with_len}
use Rattle.std.proofs.lemmas.Bool.{cases_Bool}
use Rattle.cu_base.specs.Bytes.{IsBytes}
use Rattle.cu_base.specs.Fields.{field, number_at}
use Rattle.cu_base.proofs.Fields.{IsBytes-field}
use Rattle.fmp_headers.specs.ImageHeader.{image_header_size, image_version}
use Rattle.capsule_grammar.specs.Reading.{capsule_of, image_of}
use Rattle.capsule_grammar.specs.Refusals.{body_of, bound, driver_count, image_count, is_fmp_guid}
use Rattle.capsule_grammar.specs.Refusals.{item}
use Rattle.fmp_headers.specs.CapsuleHeader.{header_size, image_size}
use Rattle.capsule_show.specs.ShowText.{HasBytes, ShowText}
use Rattle.capsule_show.proofs.OneText.{has_text}

images_have_bytes : (body : List ℕ) (a n : ℕ) → IsBytes body
    → AllByRecursion (λ i. IsBytes i.image)
    (map (λ (k : ℕ). image_of (item body k)) (range_with_len a n))
images_have_bytes body a zero is = tt
images_have_bytes body a (suc n) is =
    let here = item body a in
    let there = IsBytes-field body (bound body a) (bound body (a + 1) - bound body a) is in (
      IsBytes-field here (image_header_size (image_version here)) (number_at here 24 4) there,
      images_have_bytes body (a + 1) n is,
    )

read_has_bytes : (bytes : List ℕ) → IsBytes bytes → HasBytes (capsule_of bytes).body
read_has_bytes bytes is =
    let body = body_of bytes in
    let body_is = IsBytes-field bytes (header_size bytes)
    (image_size bytes - header_size bytes) is in
    elim (cases_Bool (is_fmp_guid (field bytes 0 16))) [
      | inl fmp ↦ rw fmp (images_have_bytes body (driver_count body) (image_count body) body_is)
      | inr other ↦ rw other tt
    ]

pub has_read_text : (bytes : List ℕ) → IsBytes bytes
    → (text : List ℕ) × ShowText (capsule_of bytes) text
has_read_text bytes is = has_text (capsule_of bytes) (read_has_bytes bytes is)
