-- Bytes that grow piece by piece.
use Rattle.std.proofs.Common.{◌≡◌, ◌+◌, ◌<◌, suc, List, [], ◌∷◌, ◌++◌, ℕ, length, get_or, flat_map}
use Rattle.std.proofs.Common.{drop, refl, sym, ap, ◌∙◌, append_assoc, drop-cons, add-one}

-- what is left of a list begins with the item at its place
pub drop_item : {X : Type 0} (xs : List X) (i : ℕ) (x d : X) → i < length xs → x ≡ get_or xs i d
    → drop i xs ≡ x ∷ drop (i + 1) xs
drop_item xs i x d h is =
    drop-cons xs i d h ∙ ap (λ y. y ∷ drop (suc i) xs) (sym is)
    ∙ ap (λ k. x ∷ drop k xs) (sym (add-one i))

-- one more item's piece
pub one_more : {X : Type 0} (f : X → List ℕ) (out new whole : List ℕ) (xs : List X) (i : ℕ)
    (x : X) → out ++ flat_map f (drop i xs) ≡ whole → i < length xs → x ≡ get_or xs i x
    → new ≡ out ++ f x → new ++ flat_map f (drop (i + 1) xs) ≡ whole
one_more f out new whole xs i x so_far h is e =
    ap (λ w. w ++ flat_map f (drop (i + 1) xs)) e
    ∙ append_assoc out (f x) (flat_map f (drop (i + 1) xs))
    ∙ ap (λ ys. out ++ flat_map f ys) (sym (drop_item xs i x x h is)) ∙ so_far

-- three pieces in turn
pub three : (o a b d x y z : List ℕ) → x ≡ o ++ a → y ≡ x ++ b → z ≡ y ++ d
    → z ≡ o ++ (a ++ (b ++ d))
three o a b d x y z p q r =
    r ∙ ap (λ w. w ++ d) (q ∙ ap (λ w. w ++ b) p) ∙ append_assoc (o ++ a) b d
    ∙ append_assoc o a (b ++ d)
