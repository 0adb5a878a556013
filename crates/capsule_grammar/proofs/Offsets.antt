-- What it means that no offset is refused.
use Rattle.std.proofs.Common.{◌≡◌, ℕ, ◌+◌, ◌-◌, ◌<◌, ◌≤◌, ltb, leb, List, length, None, arith, inl}
use Rattle.std.proofs.Common.{inr}
use Rattle.std.proofs.lemmas.Bool.{ltb-false, leb-false, lt-ltb, le-ltb, or_parts, and_cases}
use Rattle.std.proofs.lemmas.Bool.{cases_lt, cond-true, cond-false, both_ways}
use Rattle.cu_base.specs.Refusals.{first_refusal}
use Rattle.cu_base.proofs.Rows.{passed, each_in}
use Rattle.capsule_grammar.specs.Refusals.{item_count, list_end, offset, bound, offset_rows}
use Rattle.capsule_grammar.specs.Refusals.{all_offset_rows}
use Rattle.capsule_grammar.specs.Accepted.{AreBounds}

-- an offset that is not refused
record IsOffset (body : List ℕ) (k : ℕ) : Type 0 where
  behind : list_end body ≤ offset body k
  within : offset body k ≤ length body
  rising : 0 < k → offset body (k - 1) < offset body k

is_offset : (body : List ℕ) (at k : ℕ) → first_refusal (offset_rows body at k) ≡ None
    → IsOffset body k
is_offset body at k e =
    let rows = passed (offset_rows body at k) e in
    let outside = or_parts (ltb (offset body k) (list_end body))
    (ltb (length body) (offset body k)) rows.0 in
    record {
      behind = ltb-false _ _ outside.0;
      within = ltb-false _ _ outside.1;
      rising = λ above. elim
          (and_cases (ltb 0 k) (leb (offset body k) (offset body (k - 1))) rows.1.0) [
            | inl first ↦ absurd (both_ways _ first (lt-ltb 0 k above))
            | inr rises ↦ leb-false _ _ rises
          ];
    }

pub bound_is : (body : List ℕ) (k : ℕ) → k < item_count body → bound body k ≡ offset body k
bound_is body k h = cond-true _ _ _ (lt-ltb k (item_count body) h)

pub bound_ends : (body : List ℕ) (k : ℕ) → item_count body ≤ k → bound body k ≡ length body
bound_ends body k h = cond-false _ _ _ (le-ltb k (item_count body) h)

pub are_bounds : (body : List ℕ) (at : ℕ) → list_end body ≤ length body
    → ((k : ℕ) → k < item_count body → first_refusal (offset_rows body at k) ≡ None)
    → AreBounds body (length body)
are_bounds body at long h = record {
  behind = λ k le. elim (cases_lt k (item_count body)) [
    | inl here ↦ rw (bound_is body k here) (is_offset body at k (h k here)).behind
    | inr end ↦ rw (bound_ends body k end) long
  ];
  within = λ k le. elim (cases_lt k (item_count body)) [
    | inl here ↦ rw (bound_is body k here) (is_offset body at k (h k here)).within
    | inr end ↦ rw (bound_ends body k end) (omega arith)
  ];
  apart = λ k next.
      let up : 0 < k + 1 → offset body (k + 1 - 1) < offset body (k + 1) =
      (is_offset body at (k + 1) (h (k + 1) next)).rising in
      let same : k + 1 - 1 ≡ k = omega arith in
      let more : offset body k < offset body (k + 1) = rw same at (up (omega arith)) in
      let here : k < item_count body = omega arith in
      rw (bound_is body k here, bound_is body (k + 1) next) more;
  rising = λ k here. elim (cases_lt (k + 1) (item_count body)) [
    | inl next ↦
        let up : 0 < k + 1 → offset body (k + 1 - 1) < offset body (k + 1) =
        (is_offset body at (k + 1) (h (k + 1) next)).rising in
        let same : k + 1 - 1 ≡ k = omega arith in
        let more : offset body k < offset body (k + 1) = rw same at (up (omega arith)) in
        rw (bound_is body k here, bound_is body (k + 1) next) (omega (arith, more))
    | inr end ↦ rw (bound_is body k here, bound_ends body (k + 1) end)
        (is_offset body at k (h k here)).within
  ];
}

pub all_are_bounds : (body : List ℕ) (at : ℕ) → list_end body ≤ length body
    → first_refusal (all_offset_rows body at) ≡ None → AreBounds body (length body)
all_are_bounds body at long e =
    are_bounds body at long
    (λ k here. each_in (offset_rows body at) 0 (item_count body) k e (omega arith) (omega arith))
