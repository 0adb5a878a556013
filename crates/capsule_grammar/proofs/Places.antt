-- The place of a refusal is small.
use Rattle.std.proofs.Common.{◌≡◌, ℕ, ◌+◌, ◌*◌, ◌-◌, ◌^◌, ◌<◌, ◌≤◌}
use Rattle.std.proofs.Common.{cond, List, [], ◌++◌, length, Some, sym, ap}
use Rattle.std.proofs.Common.{◌∙◌, inl, inr, arith}
use Rattle.std.proofs.lemmas.Bool.{cases_Bool, cond-true, cond-false, ltb-false}
use Rattle.cu_base.specs.Refusals.{first_refusal}
use Rattle.cu_base.specs.declared.limits.TheConstants.{MAX_CAPSULE_BYTES}
use Rattle.cu_base.specs.Fields.{field}
use Rattle.cu_base.specs.Bytes.{IsBytes}
use Rattle.fmp_headers.specs.CapsuleHeader.{header_size, image_size}
use Rattle.cu_base.proofs.Rows.{passed, of_each, some-parts, which_in}
use Rattle.cu_base.proofs.Fields.{IsBytes-field, length-field}
use Rattle.capsule_grammar.specs.declared.refusal.Why.{Why}
use Rattle.capsule_grammar.specs.Refusals.{refusal, capsule_rows, is_fmp_guid, body_of, fmp_rows}
use Rattle.capsule_grammar.specs.Refusals.{fmp_front_rows, offset_rows, all_offset_rows}
use Rattle.capsule_grammar.specs.Refusals.{all_image_rows, image_rows, driver_count, image_count}
use Rattle.capsule_grammar.specs.Refusals.{item_count, list_end, bound, item}
use Rattle.capsule_grammar.proofs.Offsets.{all_are_bounds}
use Rattle.capsule_grammar.proofs.Read.{is_front}

-- a place up to n
abbrev UpTo : ℕ → ℕ × Why → Type 0
UpTo n refusal = refusal.0 ≤ n

fmp_place : (body : List ℕ) (at : ℕ) (r : ℕ × Why) → IsBytes body → length body ≤ MAX_CAPSULE_BYTES
    → at ≤ MAX_CAPSULE_BYTES → first_refusal (fmp_rows body at) ≡ Some r → r.0 < 2 ^ 31
fmp_place body at r is small low e =
    elim (some-parts (fmp_front_rows body at)
    (all_offset_rows body at ++ all_image_rows body at) r e) [
      | inl here ↦
          (let n : r.0 ≤ at + 8 = of_each (UpTo (at + 8)) (fmp_front_rows body at) r
          (omega arith, (omega arith, (omega arith, tt))) here in omega (arith, n))
      | inr tail ↦
          let rows = passed (fmp_front_rows body at) tail.0 in
          let short : 8 ≤ length body = ltb-false _ _ rows.0 in
          let long : list_end body ≤ length body = ltb-false _ _ rows.1.1.0 in
          elim (some-parts (all_offset_rows body at) (all_image_rows body at) r tail.1) [
            | inl here ↦
                let k = which_in (offset_rows body at) 0 (item_count body) r here in
                let n : r.0 ≤ at + 8 + 8 * k.0 =
                of_each (UpTo (at + 8 + 8 * k.0)) (offset_rows body at k.0) r
                (omega arith, (omega arith, tt)) k.3 in
                omega (arith, n, k.2, long)
            | inr last ↦
                let are = all_are_bounds body at long last.0 in
                let k = which_in (λ j. image_rows (item body j) (at + bound body j))
                (driver_count body) (image_count body) r last.1 in
                let n : r.0 ≤ at + bound body k.0 + 24 =
                of_each (UpTo (at + bound body k.0 + 24))
                (image_rows (item body k.0) (at + bound body k.0)) r
                (omega arith, (omega arith, (omega arith, (omega arith, tt)))) k.3 in
                let within : bound body k.0 ≤ length body = are.within k.0 (omega (arith, k.2)) in
                omega (arith, n, within)
          ]
    ]

pub place_below : (bytes : List ℕ) (r : ℕ × Why) → IsBytes bytes → refusal bytes ≡ Some r
    → r.0 < 2 ^ 31
place_below bytes r is e =
    let later = cond (is_fmp_guid (field bytes 0 16))
    (fmp_rows (body_of bytes) (header_size bytes)) [] in
    elim (some-parts (capsule_rows bytes) later r e) [
      | inl here ↦
          (let n : r.0 ≤ 24 = of_each (UpTo 24) (capsule_rows bytes) r
          (omega arith, (omega arith, (omega arith, tt))) here in omega (arith, n))
      | inr tail ↦
          let front = is_front bytes tail.0 in
          elim (cases_Bool (is_fmp_guid (field bytes 0 16))) [
            | inl fmp ↦
                let long : length (body_of bytes) ≡ image_size bytes - header_size bytes =
                length-field bytes (header_size bytes) (image_size bytes - header_size bytes)
                (omega (arith, front.within, front.there)) in
                fmp_place (body_of bytes) (header_size bytes) r
                (IsBytes-field bytes (header_size bytes) (image_size bytes - header_size bytes) is)
                (omega (arith, long, front.limit)) (omega (arith, front.within, front.limit))
                (ap first_refusal
                (sym (cond-true (is_fmp_guid (field bytes 0 16))
                (fmp_rows (body_of bytes) (header_size bytes)) [] fmp)) ∙ tail.1)
            | inr other ↦
                let none : first_refusal {R = ℕ × Why} [] ≡ Some r =
                ap first_refusal
                (sym (cond-false (is_fmp_guid (field bytes 0 16))
                (fmp_rows (body_of bytes) (header_size bytes)) [] other)) ∙ tail.1 in
                absurd cc
          ]
    ]
