-- The first number of a range that does, once some were passed.
use Rattle.std.proofs.Common.{◌≡◌, ℕ, zero, suc, ◌+◌, ◌-◌, ◌<◌, ◌≤◌, Bool, true, false, cond, List}
use Rattle.std.proofs.Common.{[]}
use Rattle.std.proofs.Common.{◌∷◌, find, Some, None, ap, ◌∙◌, arith}
use Rattle.std.specs.List.{range_with_len}

-- the numbers from one on that are below another
abbrev pub from : ℕ → ℕ → List ℕ
from k n = range_with_len k (n - k)

from_more : (k n : ℕ) → k < n → from k n ≡ k ∷ from (k + 1) n
from_more k n h = let e : n - k ≡ suc (n - (k + 1)) = omega arith in ap (range_with_len k) e

from_none : (k n : ℕ) → n ≤ k → from k n ≡ []
from_none k n h = let e : n - k ≡ zero = omega arith in ap (range_with_len k) e

pub found_here : (p : ℕ → Bool) (k n : ℕ) → k < n → p k ≡ true → find p (from k n) ≡ Some k
found_here p k n h is =
    ap (find p) (from_more k n h) ∙ ap (λ b. cond b (Some k) (find p (from (k + 1) n))) is

pub found_later : (p : ℕ → Bool) (k n : ℕ) → k < n → p k ≡ false
    → find p (from k n) ≡ find p (from (k + 1) n)
found_later p k n h is =
    ap (find p) (from_more k n h) ∙ ap (λ b. cond b (Some k) (find p (from (k + 1) n))) is

pub found_none : (p : ℕ → Bool) (k n : ℕ) → n ≤ k → find p (from k n) ≡ None
found_none p k n h = ap (find p) (from_none k n h)
