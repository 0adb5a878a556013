-- The front of what is joined.
use Rattle.std.proofs.Common.{◌≡◌, ℕ, zero, suc, ◌-◌, ◌≤◌, min, List, [], ◌∷◌, ◌++◌}
use Rattle.std.proofs.Common.{length, take, refl, sym, ap, ◌∙◌, arith}
use Rattle.std.proofs.lemmas.List.{take_all, take_min}

pub take_append : (n : ℕ) (xs ys : List ℕ) → take n (xs ++ ys) ≡ take n xs
    ++ take (n - length xs) ys
take_append zero xs ys =
    let none : 0 - length xs ≡ 0 = omega arith in rw none refl
take_append (suc n) [] ys =
    let all : suc n - 0 ≡ suc n = omega arith in rw all refl
take_append (suc n) (x ∷ xs) ys =
    let less : suc n - length (x ∷ xs) ≡ n - length xs = omega arith in
    rw less (ap (λ (l : List ℕ). x ∷ l) (take_append n xs ys))

pub joined_front : (m : ℕ) (xs ys : List ℕ) (added : ℕ) → length xs ≤ m
    → added ≡ min (m - length xs) (length ys) → xs ++ take added ys ≡ take m (xs ++ ys)
joined_front m xs ys added low e =
    ap (λ (n : ℕ). xs ++ take n ys) e
    ∙ ap (λ (l : List ℕ). xs ++ l) (take_min (m - length xs) ys)
    ∙ ap (λ (l : List ℕ). l ++ take (m - length xs) ys) (sym (take_all m xs low))
    ∙ sym (take_append m xs ys)
