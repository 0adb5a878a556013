-- Entries by their places: what is left of them once some were passed.
use Rattle.std.proofs.Common.{◌≡◌, ℕ, zero, suc, ◌+◌, ◌-◌, ◌<◌, ◌≤◌, Bool, true, false, ◌&&◌, cond}
use Rattle.std.proofs.Common.{List, [], ◌∷◌, map, find, nat_lt, Some, None, refl, ap, ◌∙◌, sym}
use Rattle.std.proofs.Common.{arith}
use Rattle.std.specs.List.{range_with_len}
use Rattle.stored_vars.specs.Progress.{are_rising}
use Rattle.stored_vars.specs.declared.progress.ProgressEntry.{ProgressEntry}

-- the entries from a number on
abbrev pub left : {X : Type 0} → (ℕ → X) → ℕ → ℕ → List X
left f k n = map f (range_with_len k (n - k))

pub left_more : {X : Type 0} (f : ℕ → X) (k n : ℕ) → k < n → left f k n ≡ f k ∷ left f (k + 1) n
left_more f k n h =
    let e : n - k ≡ suc (n - (k + 1)) = omega arith in ap (λ m. map f (range_with_len k m)) e

pub left_none : {X : Type 0} (f : ℕ → X) (k n : ℕ) → n ≤ k → left f k n ≡ []
left_none f k n h =
    let e : n - k ≡ zero = omega arith in ap (λ m. map f (range_with_len k m)) e

-- ---- serials that rise

pub rising_step : (f : ℕ → ProgressEntry) (k n : ℕ) → k + 1 < n
    → are_rising (left f k n)
    ≡ (nat_lt (f k).serial (f (k + 1)).serial && are_rising (left f (k + 1) n))
rising_step f k n h =
    ap are_rising (left_more f k n (omega arith)
    ∙ ap (λ l. f k ∷ l) (left_more f (k + 1) n h))
    ∙ ap (λ l. nat_lt (f k).serial (f (k + 1)).serial && are_rising l)
    (sym (left_more f (k + 1) n h))

pub rising_end : (f : ℕ → ProgressEntry) (k n : ℕ) → n ≤ k + 1 → are_rising (left f k n) ≡ true
rising_end f k n h = by_rest (n - k) refl
  where
    by_rest : (m : ℕ) → n - k ≡ m → are_rising (left f k n) ≡ true
    by_rest zero e = ap (λ m. are_rising (map f (range_with_len k m))) e
    by_rest (suc zero) e = ap (λ m. are_rising (map f (range_with_len k m))) e
    by_rest (suc (suc m)) e = absurd (omega (arith, e))

-- ---- the first entry that does

pub found_here : {X : Type 0} (p : X → Bool) (f : ℕ → X) (k n : ℕ) → k < n → p (f k) ≡ true
    → find p (left f k n) ≡ Some (f k)
found_here p f k n h is =
    ap (find p) (left_more f k n h) ∙ ap (λ b. cond b (Some (f k)) (find p (left f (k + 1) n))) is

pub found_later : {X : Type 0} (p : X → Bool) (f : ℕ → X) (k n : ℕ) → k < n → p (f k) ≡ false
    → find p (left f k n) ≡ find p (left f (k + 1) n)
found_later p f k n h is =
    ap (find p) (left_more f k n h) ∙ ap (λ b. cond b (Some (f k)) (find p (left f (k + 1) n))) is

pub found_none : {X : Type 0} (p : X → Bool) (f : ℕ → X) (k n : ℕ) → n ≤ k
    → find p (left f k n) ≡ None
found_none p f k n h = ap (find p) (left_none f k n h)
