-- A segment on top of others: its bytes hide theirs, and are copied over what was read of them.
use Rattle.std.proofs.Common.{◌∷◌, [], ◌^◌, drop, take, length-drop, ◌≡◌, inl, inr, ℕ, ◌+◌, ◌-◌, ◌<◌, ◌≤◌, List, length, get_or}
use Rattle.std.proofs.Common.{refl, sym, ap, ◌∙◌, arith, true, false, nat_le, nat_lt}
use Rattle.std.proofs.Common.{Some, None, ◌⊎◌, rules}
use Rattle.std.specs.Option.{option_or, unwrap_or}
use Rattle.std.proofs.lemmas.List.{get_or-drop, get_or-take, length-take-le, places}
use Rattle.std.proofs.lemmas.List.Sums.{fold-append}
use Rattle.std.proofs.lemmas.Bool.Decides.{nat_tests}
use Rattle.std.proofs.lemmas.Bool.{cases_lt}
use borrow.Rule.Slice.PartMut.{put_mid}
use Rattle.bench_model.specs.declared.segment.Segment.{Segment}
use Rattle.bench_model.specs.Memory.{byte_at, byte_of, with_segment, IsThere, Overlays}

byte_within : (s : Segment) (address : ℕ) → s.address ≤ address
    → address < s.address + length s.bytes
    → byte_of address s ≡ Some (get_or s.bytes (address - s.address) 0)
byte_within s address low high =
    let from : nat_le s.address address ≡ true = grind (arith, nat_tests) in
    let to : nat_lt address (s.address + length s.bytes) ≡ true = grind (arith, nat_tests) in
    rw from (rw to refl)

byte_before : (s : Segment) (address : ℕ) → address < s.address → byte_of address s ≡ None
byte_before s address low =
    let from : nat_le s.address address ≡ false = grind (arith, nat_tests) in rw from refl

pub byte_behind : (s : Segment) (address : ℕ) → s.address + length s.bytes ≤ address
    → byte_of address s ≡ None
byte_behind s address high =
    let past : nat_lt address (s.address + length s.bytes) ≡ false = grind (arith, nat_tests) in
    rw past (grind (arith, nat_tests))

put_before : (a k : ℕ) (xs ys : List ℕ) (j : ℕ) → j < a → a ≤ length xs
    → get_or (put_mid a k xs ys) j 0 ≡ get_or xs j 0
put_before a k xs ys j less fits = search (rules, places)

put_within : (a k : ℕ) (xs ys : List ℕ) (j : ℕ) → a ≤ j → j < a + length ys → a ≤ length xs
    → get_or (put_mid a k xs ys) j 0 ≡ get_or ys (j - a) 0
put_within a k xs ys j low high fits = search (rules, places)

put_behind : (a k : ℕ) (xs ys : List ℕ) (j : ℕ) → length ys ≡ k → a + k ≤ j → a ≤ length xs
    → get_or (put_mid a k xs ys) j 0 ≡ get_or xs j 0
put_behind a k xs ys j long high fits = search (rules, places)

-- the bytes of a segment from `start` to `end`, which is all of it that lies in the range, are put
-- over those that were read from `at` on
pub overlays : (s : Segment) (at start end : ℕ) (old piece : List ℕ) → at ≤ start
    → s.address ≤ start → start < end → end ≤ at + length old → end ≤ s.address + length s.bytes
    → (at ≡ start ⊎ s.address ≡ start)
    → (end ≡ at + length old ⊎ end ≡ s.address + length s.bytes)
    → length piece ≡ end - start
    → ((i : ℕ) → i < end - start
    → get_or piece i 0 ≡ get_or s.bytes (start - s.address + i) 0)
    → Overlays s at old (put_mid (start - at) (start - at + (end - start) - (start - at)) old piece)
overlays s at start end old piece low from some high to first last long same k below =
    let count : start - at + (end - start) - (start - at) ≡ end - start = omega arith in
    elim (cases_lt (at + k) start) [
      | inl before ↦
          let none : byte_of (at + k) s ≡ None = elim first [
            | inl at_is ↦ let no : ⊥ = omega arith in absurd no
            | inr at_is ↦ byte_before s (at + k) (omega arith)
          ] in
          put_before (start - at) _ old piece k (omega arith) (omega arith)
          ∙ ap (λ b. unwrap_or b (get_or old k 0)) (sym none)
      | inr behind ↦ elim (cases_lt (at + k) end) [
        | inl within ↦
            let place : start - s.address + (k - (start - at)) ≡ at + k - s.address = omega arith in
            put_within (start - at) _ old piece k (omega arith) (omega arith) (omega arith)
            ∙ same (k - (start - at)) (omega arith)
            ∙ ap (λ i. get_or s.bytes i 0) place
            ∙ ap (λ b. unwrap_or b (get_or old k 0))
            (sym (byte_within s (at + k) (omega arith) (omega arith)))
        | inr past ↦
            let none : byte_of (at + k) s ≡ None = elim last [
              | inl end_is ↦ let no : ⊥ = omega arith in absurd no
              | inr end_is ↦ byte_behind s (at + k) (omega arith)
            ] in
            put_behind (start - at) _ old piece k (omega arith) (omega arith) (omega arith)
            ∙ ap (λ b. unwrap_or b (get_or old k 0)) (sym none)
      ]
    ]

-- ---- a segment that is laid

byte_laid : (memory : List Segment) (at : ℕ) (bytes : List ℕ) (address : ℕ)
    → byte_at (with_segment memory at bytes) address
    ≡ option_or (byte_of address (record { address = at; bytes = bytes })) (byte_at memory address)
byte_laid memory at bytes address =
    fold-append (λ found s. option_or (byte_of address s) found) None memory
    (record { address = at; bytes = bytes } ∷ [])

-- the bytes of the segment that was laid last stand in memory
pub stands_on_top : (memory : List Segment) (at : ℕ) (bytes : List ℕ)
    → at + length bytes ≤ 2 ^ 64 - 1 → IsThere (with_segment memory at bytes) at bytes
stands_on_top memory at bytes fits = record {
  each = λ k below.
      let place : at + k - at ≡ k = omega arith in
      byte_laid memory at bytes (at + k)
      ∙ ap (λ b. option_or b (byte_at memory (at + k)))
      (byte_within (record { address = at; bytes = bytes }) (at + k) (omega arith) (omega arith))
      ∙ ap (λ i. Some (get_or bytes i 0)) place;
  end = fits;
}

-- what stands in memory beside the segment that was laid last still does
pub stands_beside : (memory : List Segment) (place : ℕ) (bytes : List ℕ) (at : ℕ)
    (other : List ℕ)
    → ((k : ℕ) → place ≤ k → k < place + length bytes → at ≤ k → k < at + length other → ⊥)
    → IsThere memory place bytes → IsThere (with_segment memory at other) place bytes
stands_beside memory place bytes at other apart there = record {
  each = λ k below.
      let s : Segment = record { address = at; bytes = other } in
      let none : byte_of (place + k) s ≡ None = elim (cases_lt (place + k) at) [
        | inl before ↦ byte_before s (place + k) before
        | inr behind ↦ elim (cases_lt (place + k) (at + length other)) [
          | inl within ↦ absurd (apart (place + k) (omega arith) (omega arith) behind within)
          | inr past ↦ byte_behind s (place + k) past
        ]
      ] in
      byte_laid memory at other (place + k)
      ∙ ap (λ b. option_or b (byte_at memory (place + k))) none ∙ there.each k below;
  end = there.end;
}

-- a part of what stands in memory
pub stands_in : (memory : List Segment) (place : ℕ) (bytes : List ℕ) (from n : ℕ)
    → from + n ≤ length bytes → IsThere memory place bytes
    → IsThere memory (place + from) (take n (drop from bytes))
stands_in memory place bytes from n within there =
    let rest : length (drop from bytes) ≡ length bytes - from = length-drop from bytes in
    let long : length (take n (drop from bytes)) ≡ n =
    length-take-le n (drop from bytes) (omega arith) in
    record {
      each = λ k below.
          let more : place + from + k ≡ place + (from + k) = omega arith in
          let less : k < n = omega arith in
          ap (byte_at memory) more ∙ there.each (from + k) (omega arith)
          ∙ ap (λ b. Some b) (sym (get_or-take n (drop from bytes) k 0 less
          ∙ get_or-drop from bytes k 0));
      end = omega (arith, there.end);
    }
