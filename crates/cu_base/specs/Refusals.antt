-- A table of refusals: rows that are tested in order, of which the first that holds decides.
use Rattle.std.specs.Prelude.{◌≡◌, ℕ, Bool, List, [], ◌∷◌, Option, None, Some, Result, Ok, Err}
use Rattle.std.specs.Prelude.{if◌then◌else◌}

-- where the row holds, this is the refusal: a cause, or a place and a cause
pub record Row (R : Type 0) : Type 0 where
  pub holds : Bool
  pub refusal : R

-- a row of its test and refusal
abbrev pub row : {R : Type 0} → Bool → R → Row R
row holds refusal = record { holds = holds; refusal = refusal }

-- a row of its test, place and cause
abbrev pub row_at : {W : Type 0} → Bool → ℕ → W → Row (ℕ × W)
row_at holds at why = row holds (at, why)

-- the refusal of the first row that holds
abbrev pub first_refusal : {R : Type 0} → List (Row R) → Option R
first_refusal [] = None
first_refusal (r ∷ rows) = if r.holds then Some r.refusal else first_refusal rows

-- what a fault tells is the refusal; one that tells none, as want of memory, is free
abbrev pub IsTold : {R : Type 0} → Option R → Option R → Type 0
IsTold None refused = Unit {0}
IsTold (Some told) refused = refused ≡ Some told

-- the answer is Ok where nothing is refused, and else a fault that tells the refusal
abbrev pub AnswersBy : {X E R : Type 0} → (E → Option R) → Result X E → Option R → Type 0
AnswersBy told (Ok x) refused = refused ≡ None
AnswersBy told (Err fault) refused = IsTold (told fault) refused
