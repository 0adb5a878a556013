-- A text that grows by lines.
use Rattle.std.specs.Prelude.{◌≡◌, ℕ, List, ◌++◌}
use Rattle.std.specs.List.{concat}

-- lines of this kind were appended to a text
pub record AppendsLines (Are : List (List ℕ) → Type 0) (old new : List ℕ) : Type 0 where
  pub lines : List (List ℕ)
  pub are : Are lines
  pub told : new ≡ old ++ concat lines
