-- What a dependency section asks.
use Rattle.dep_code.specs.declared.tree.CompareKind.{CompareKind}
use Rattle.dep_code.specs.declared.tree.Compared.{Compared}

-- a truth value of the versions of devices; of two operands the first is the left one
pub data Tree : Type 0 where
  True : Tree
  False : Tree
  Not : Tree → Tree
  And : Tree → Tree → Tree
  Or : Tree → Tree → Tree
  Compare : CompareKind → Compared → Compared → Tree
