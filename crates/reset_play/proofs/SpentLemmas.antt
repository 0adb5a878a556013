-- What is read off the list of spent units, element by element.
use Rattle.std.proofs.Common.{◌≡◌, ◌∙◌, ap, sym, ◌+◌, ◌<◌, suc, drop, get_or, drop-cons, ℕ, ◌==◌}
use Rattle.std.proofs.Common.{◌&&◌, ◌||◌, max, Bool, true, false, cond, not, List, [], ◌∷◌, map}
use Rattle.std.proofs.Common.{filter, length, refl, arith}
use native.Mathlib.Numerals.{unary_clauses}
use Rattle.std.specs.List.{list_any}
use Rattle.reference_machine.specs.Spent.{Element, is_on, is_sealed, sealed_floors}
use Rattle.report_tables.specs.Entries.{greatest}

-- one number more
pub greatest_more : (n m : ℕ) (ms : List ℕ) → greatest (max n m) ms ≡ max m (greatest n ms)
greatest_more n m [] = omega arith
greatest_more n m (x ∷ xs) = let h : greatest (max n m) xs ≡ max m (greatest n xs) =
    greatest_more n m xs in omega arith

-- one element more
pub floors_more : (n : ℕ) (e : Element) (es : List Element)
    → greatest n (sealed_floors (e ∷ es) 0)
    ≡ greatest (cond (is_on 0 e && is_sealed e) (max n e.floor) n) (sealed_floors es 0)
floors_more n e es =
    elim (is_on 0 e && is_sealed e) as
    (λ b. greatest n
    (map (λ x. x.floor)
    (cond b (e ∷ filter (λ x. is_on 0 x && is_sealed x) es)
    (filter (λ x. is_on 0 x && is_sealed x) es)))
    ≡ greatest (cond b (max n e.floor) n) (sealed_floors es 0)) [
      | true ↦ sym (greatest_more n e.floor (sealed_floors es 0))
      | false ↦ refl
    ]

pub floors_from : (n : ℕ) (list : List Element) (i : ℕ) (d : Element) → i < length list
    → greatest n (sealed_floors (drop i list) 0)
    ≡ greatest (cond (is_on 0 (get_or list i d) && is_sealed (get_or list i d))
    (max n (get_or list i d).floor) n) (sealed_floors (drop (i + 1) list) 0)
floors_from n list i d h =
    simp unary_clauses
    (ap (λ es. greatest n (sealed_floors es 0)) (drop-cons list i d h)
    ∙ floors_more n (get_or list i d) (drop (suc i) list))

-- some item passes a test exactly where those that pass are not none
pub some_pass : {X : Type 0} (p : X → Bool) (xs : List X)
    → list_any p xs ≡ not (length (filter p xs) == 0)
some_pass p [] = refl
some_pass {X} p (x ∷ xs) =
    elim (p x) as
    (λ b. (b || list_any p xs) ≡ not (length (cond b (x ∷ filter p xs) (filter p xs)) == 0)) [
      | true ↦ grind arith
      | false ↦ some_pass p xs
    ]
