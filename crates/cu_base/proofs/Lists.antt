-- Lists, for the crates above.
use Rattle.std.proofs.Common.{◌≡◌, ◌+◌, Bool, true, false, cond, List, [], ◌∷◌, ◌++◌, length, refl}
use Rattle.std.proofs.Common.{arith}
use Rattle.std.specs.List.{filter}

-- one item more counts where it is one of these
pub filter_more : {X : Type 0} (p : X → Bool) (xs : List X) (x : X)
    → length (filter p (xs ++ x ∷ [])) ≡ length (filter p xs) + cond (p x) 1 0
filter_more p [] x =
    elim (p x) as (λ b. length (cond b (x ∷ []) []) ≡ 0 + cond b 1 0) [ true ↦ refl | false ↦ refl ]
filter_more p (y ∷ ys) x =
    let more = filter p (ys ++ x ∷ []) in
    let h : length more ≡ length (filter p ys) + cond (p x) 1 0 = filter_more p ys x in
    elim (p y) as
    (λ b. length (cond b (y ∷ more) more) ≡ length (cond b (y ∷ filter p ys) (filter p ys)) + cond
    (p x) 1 0) [
      | true ↦ omega arith
      | false ↦ h
    ]
