-- What is read again is of one spelling.
use Rattle.std.proofs.Common.{◌≡◌, List, ℕ, Option, Some, sym, ap, ◌∙◌}

pub one_spelling : {V : Type 0} (spell : V → List ℕ) (read : List ℕ → Option V) (v w : V)
    → read (spell v) ≡ Some v → read (spell w) ≡ Some w → spell v ≡ spell w → v ≡ w
one_spelling spell read v w again_v again_w e =
    let both : Some v ≡ Some w = sym again_v ∙ ap read e ∙ again_w in cc
