-- Tables of refusals: which row decides, and tables that are made of others.
use Rattle.std.proofs.Common.{◌≡◌, ℕ, zero, suc, ◌+◌, ◌<◌, ◌≤◌, ◌⊎◌, Bool, true, false, cond, List}
use Rattle.std.proofs.Common.{[], ◌∷◌, ◌++◌, map, Option, Some, None, Result, refl, ◌∙◌, arith, inl}
use Rattle.std.proofs.Common.{inr}
use Rattle.std.specs.List.{AllByRecursion, flat_map, range_with_len}
use Rattle.std.proofs.lemmas.Bool.{cases_eq}
use Rattle.cu_base.specs.Refusals.{Row, first_refusal, AnswersBy}

-- ---- one table

-- each row of the table fails
abbrev pub NoneHolds : {R : Type 0} → List (Row R) → Type 0
NoneHolds rows = AllByRecursion (λ r. r.holds ≡ false) rows

passed_row : {R : Type 0} (b : Bool) (here : R) (later : Option R)
    → cond b (Some here) later ≡ None → (b ≡ false) × (later ≡ None)
passed_row true here later e = absurd cc
passed_row false here later e = (refl, e)

pub passed : {R : Type 0} (rows : List (Row R)) → first_refusal rows ≡ None → NoneHolds rows
passed [] e = tt
passed (r ∷ rows) e =
    let first = passed_row r.holds r.refusal (first_refusal rows) e in
    (first.0, passed rows first.1)

pub none_refused : {R : Type 0} (rows : List (Row R)) → NoneHolds rows → first_refusal rows ≡ None
none_refused [] h = refl
none_refused (r ∷ rows) h = rw (h.0) (none_refused rows h.1)

-- the refusal is that of this row or of a later one
pub here_or_later : {R : Type 0} (b : Bool) (here r : R) (later : Option R)
    → cond b (Some here) later ≡ Some r → (here ≡ r) ⊎ (later ≡ Some r)
here_or_later true here r later e = inl cc
here_or_later false here r later e = inr e

-- what holds of the refusal of each row holds of that of the table
pub of_each : {R : Type 0} (P : R → Type 0) (rows : List (Row R)) (r : R)
    → AllByRecursion (λ x. P x.refusal) rows → first_refusal rows ≡ Some r → P r
of_each P [] r each e = absurd cc
of_each P (x ∷ rows) r each e =
    elim (here_or_later x.holds x.refusal r (first_refusal rows) e) [
      | inl here ↦ rw (← here) each.0
      | inr later ↦ of_each P rows r each.1 later
    ]

-- ---- one table behind another

first-none-row : {R : Type 0} (b : Bool) (here : R) (xs both ys : Option R)
    → cond b (Some here) xs ≡ None → (xs ≡ None → both ≡ ys) → cond b (Some here) both ≡ ys
first-none-row true here xs both ys e h = absurd cc
first-none-row false here xs both ys e h = h e

first-some-row : {R : Type 0} (b : Bool) (here r : R) (xs both : Option R)
    → cond b (Some here) xs ≡ Some r → (xs ≡ Some r → both ≡ Some r)
    → cond b (Some here) both ≡ Some r
first-some-row true here r xs both e h = e
first-some-row false here r xs both e h = h e

first-parts-row : {R : Type 0} (b : Bool) (here : R) (xs ys both : Option R)
    → cond b (Some here) both ≡ None → (both ≡ None → (xs ≡ None) × (ys ≡ None))
    → (cond b (Some here) xs ≡ None) × (ys ≡ None)
first-parts-row true here xs ys both e h = absurd cc
first-parts-row false here xs ys both e h = h e

some-parts-row : {R : Type 0} (b : Bool) (here r : R) (xs ys both : Option R)
    → cond b (Some here) both ≡ Some r
    → (both ≡ Some r → (xs ≡ Some r) ⊎ ((xs ≡ None) × (ys ≡ Some r)))
    → (cond b (Some here) xs ≡ Some r) ⊎ ((cond b (Some here) xs ≡ None) × (ys ≡ Some r))
some-parts-row true here r xs ys both e h = inl e
some-parts-row false here r xs ys both e h = h e

pub first-none : {R : Type 0} (xs ys : List (Row R))
    → first_refusal xs ≡ None → first_refusal (xs ++ ys) ≡ first_refusal ys
first-none [] ys e = refl
first-none (x ∷ xs) ys e =
    first-none-row x.holds x.refusal (first_refusal xs) (first_refusal (xs ++ ys))
    (first_refusal ys) e
    (first-none xs ys)

pub first-some : {R : Type 0} (xs ys : List (Row R)) (r : R)
    → first_refusal xs ≡ Some r → first_refusal (xs ++ ys) ≡ Some r
first-some [] ys r e = absurd cc
first-some (x ∷ xs) ys r e =
    first-some-row x.holds x.refusal r (first_refusal xs) (first_refusal (xs ++ ys)) e
    (first-some xs ys r)

-- where none of both holds, none of each does
pub first-parts : {R : Type 0} (xs ys : List (Row R))
    → first_refusal (xs ++ ys) ≡ None → (first_refusal xs ≡ None) × (first_refusal ys ≡ None)
first-parts [] ys e = (refl, e)
first-parts (x ∷ xs) ys e =
    first-parts-row x.holds x.refusal (first_refusal xs) (first_refusal ys)
    (first_refusal (xs ++ ys)) e
    (first-parts xs ys)

-- a refusal comes from the first table, or from the second and none from the first
pub some-parts : {R : Type 0} (xs ys : List (Row R)) (r : R) → first_refusal (xs ++ ys) ≡ Some r
    → (first_refusal xs ≡ Some r) ⊎ ((first_refusal xs ≡ None) × (first_refusal ys ≡ Some r))
some-parts [] ys r e = inr (refl, e)
some-parts (x ∷ xs) ys r e =
    some-parts-row x.holds x.refusal r (first_refusal xs) (first_refusal ys)
    (first_refusal (xs ++ ys)) e
    (some-parts xs ys r)

-- the answer to a table behind one of which no row holds
pub answers_then : {X E R : Type 0} (told : E → Option R) (result : Result X E)
    (xs ys : List (Row R))
    → first_refusal xs ≡ None → AnswersBy told result (first_refusal ys)
    → AnswersBy told result (first_refusal (xs ++ ys))
answers_then told result xs ys none h = rw (first-none xs ys none) h

-- ---- a table for each number of a range

pub none_in : {R : Type 0} (f : ℕ → List (Row R)) (a n : ℕ)
    → ((j : ℕ) → a ≤ j → j < a + n → first_refusal (f j) ≡ None)
    → first_refusal (flat_map f (range_with_len a n)) ≡ None
none_in f a zero h = refl
none_in f a (suc n) h =
    first-none (f a) (flat_map f (range_with_len (a + 1) n)) (h a (omega arith) (omega arith))
    ∙ none_in f (a + 1) n (λ j low high. h j (omega arith) (omega arith))

pub some_in : {R : Type 0} (f : ℕ → List (Row R)) (a n k : ℕ) (r : R)
    → ((j : ℕ) → a ≤ j → j < k → first_refusal (f j) ≡ None) → a ≤ k → k < a + n
    → first_refusal (f k) ≡ Some r → first_refusal (flat_map f (range_with_len a n)) ≡ Some r
some_in f a zero k r h low high e = absurd (omega arith)
some_in f a (suc n) k r h low high e =
    let later = flat_map f (range_with_len (a + 1) n) in
    elim (cases_eq a k) [
      | inl same ↦ first-some (f a) later r (rw same e)
      | inr other ↦
          let behind : a + 1 ≤ k = omega arith in
          first-none (f a) later (h a (omega arith) (omega arith))
          ∙ some_in f (a + 1) n k r (λ j l u. h j (omega arith) u) behind (omega arith) e
    ]

pub each_in : {R : Type 0} (f : ℕ → List (Row R)) (a n j : ℕ)
    → first_refusal (flat_map f (range_with_len a n)) ≡ None → a ≤ j → j < a + n
    → first_refusal (f j) ≡ None
each_in f a zero j e low high = absurd (omega arith)
each_in f a (suc n) j e low high =
    let parts = first-parts (f a) (flat_map f (range_with_len (a + 1) n)) e in
    elim (cases_eq a j) [
      | inl same ↦ rw (← same) parts.0
      | inr other ↦ each_in f (a + 1) n j parts.1 (omega arith) (omega arith)
    ]

-- the number of which the table refuses
pub which_in : {R : Type 0} (f : ℕ → List (Row R)) (a n : ℕ) (r : R)
    → first_refusal (flat_map f (range_with_len a n)) ≡ Some r
    → (k : ℕ) × (a ≤ k) × (k < a + n) × (first_refusal (f k) ≡ Some r)
which_in f a zero r e = absurd cc
which_in f a (suc n) r e =
    elim (some-parts (f a) (flat_map f (range_with_len (a + 1) n)) r e) [
      | inl here ↦ (a, omega arith, omega arith, here)
      | inr later ↦
          let k = which_in f (a + 1) n r later.1 in
          (k.0, omega (arith, k.1), omega (arith, k.2), k.3)
    ]

-- ---- a row for each number of a range, and what follows them

pub no_row_in : {R : Type 0} (f : ℕ → Row R) (tail : List (Row R)) (a n : ℕ)
    → ((j : ℕ) → a ≤ j → j < a + n → (f j).holds ≡ false)
    → first_refusal (map f (range_with_len a n) ++ tail) ≡ first_refusal tail
no_row_in f tail a zero h = refl
no_row_in f tail a (suc n) h =
    rw (h a (omega arith) (omega arith))
    (no_row_in f tail (a + 1) n (λ j low high. h j (omega arith) (omega arith)))

pub row_in : {R : Type 0} (f : ℕ → Row R) (tail : List (Row R)) (a n k : ℕ)
    → ((j : ℕ) → a ≤ j → j < k → (f j).holds ≡ false) → a ≤ k → k < a + n → (f k).holds ≡ true
    → first_refusal (map f (range_with_len a n) ++ tail) ≡ Some (f k).refusal
row_in f tail a zero k h low high e = absurd (omega arith)
row_in f tail a (suc n) k h low high e =
    elim (cases_eq a k) [
      | inl same ↦ rw same (rw e refl)
      | inr other ↦
          let behind : a + 1 ≤ k = omega arith in
          rw (h a (omega arith) (omega arith))
          (row_in f tail (a + 1) n k (λ j l u. h j (omega arith) u) behind (omega arith) e)
    ]
