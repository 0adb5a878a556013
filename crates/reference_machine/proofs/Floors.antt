-- The floor in force along the list of spent units.
use Rattle.std.proofs.Common.{ℕ, ◌≤◌, Bool, true, false, cond, List, [], ◌∷◌, ◌++◌, map, arith}
use Rattle.std.proofs.Common.{filter}
use Rattle.bench_model.specs.Boards.{BoardValue}
use Rattle.report_tables.specs.Entries.{greatest}
use Rattle.reference_machine.specs.Spent.{Element, floor_of, factory_floor}

-- a number is at most the greatest of it and others
pub from_first : (n : ℕ) (ms : List ℕ) → n ≤ greatest n ms
from_first n [] = omega arith
from_first n (m ∷ ms) = let h : n ≤ greatest n ms = from_first n ms in omega arith

-- more elements leave the greatest number at least as great
pub more : (n : ℕ) (p : Element → Bool) (before rest : List Element)
    → greatest n (map (λ e. e.floor) (filter p before))
    ≤ greatest n (map (λ e. e.floor) (filter p (before ++ rest)))
more n p [] rest = from_first n (map (λ e. e.floor) (filter p rest))
more n p (e ∷ es) rest =
    let h : greatest n (map (λ e. e.floor) (filter p es))
    ≤ greatest n (map (λ e. e.floor) (filter p (es ++ rest))) = more n p es rest in
    elim (p e) as
    (λ b. greatest n (map (λ e. e.floor) (cond b (e ∷ filter p es) (filter p es)))
    ≤ greatest n (map (λ e. e.floor)
    (cond b (e ∷ filter p (es ++ rest)) (filter p (es ++ rest))))) [
      | true ↦ omega arith
      | false ↦ h
    ]

pub never_falls : (board : BoardValue) (before rest : List Element) (d : ℕ)
    → floor_of board before d ≤ floor_of board (before ++ rest) d
never_falls board before rest d = more (factory_floor board d) _ before rest
