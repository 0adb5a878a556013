-- What contracts see of a list.
use Rattle.std.specs.Prelude.{ℕ, List}

-- the items, and how many more are taken without memory
pub record Kept (T : Type 0) : Type 0 where
  pub items : List T
  pub spare : ℕ
