-- A list put into an order.
use Rattle.std.specs.Prelude.{Bool, List, [], ◌∷◌, if◌then◌else◌}

-- the list with x behind the items at its front that come before x
abbrev pub inserted : {X : Type 0} → (X → X → Bool) → X → List X → List X
inserted comes_before x [] = x ∷ []
inserted comes_before x (y ∷ ys) =
    if comes_before y x then y ∷ inserted comes_before x ys else x ∷ y ∷ ys

-- the list with its items in order, equal ones as they stood
abbrev pub in_order : {X : Type 0} → (X → X → Bool) → List X → List X
in_order comes_before [] = []
in_order comes_before (x ∷ xs) = inserted comes_before x (in_order comes_before xs)
