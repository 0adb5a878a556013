-- The tree of a dependency section, and the operations that are its postfix form. The left operand
-- is the one that is pushed last and popped first: that is this tool's own.
use Rattle.std.specs.Prelude.{◌≡◌, List, [], ◌∷◌, ◌++◌}
use Rattle.dep_code.specs.declared.op.Op.{Op}
use Rattle.dep_code.specs.declared.op.Op.TheVariants.{PushGuid, PushVersion, And, Or, Not, True}
use Rattle.dep_code.specs.declared.op.Op.TheVariants.{False, Eq, Gt, Gte, Lt, Lte}
use Rattle.dep_code.specs.declared.tree.CompareKind.{CompareKind}
use Rattle.dep_code.specs.declared.tree.CompareKind.TheVariants as kinds
use Rattle.dep_code.specs.declared.tree.Compared.{Compared}
use Rattle.dep_code.specs.declared.tree.Compared.TheVariants as compared
use Rattle.dep_code.specs.declared.tree.DepTree as code
use Rattle.dep_code.specs.Operations.{computing}
use Rattle.dep_code.specs.Tree as tree
use Rattle.dep_code.specs.Tree.{Tree}

-- a tree of the program, without where it lies in memory
abbrev pub seen : code.DepTree → Tree
seen code.True = tree.True
seen code.False = tree.False
seen (code.Not' p t) = tree.Not (seen t)
seen (code.And' p a q b) = tree.And (seen a) (seen b)
seen (code.Or' p a q b) = tree.Or (seen a) (seen b)
seen (code.Compare kind a b) = tree.Compare kind a b

-- the operation that pushes an operand of a comparison
abbrev pub push : Compared → Op
push (compared.Version version) = PushVersion version
push (compared.Guid guid) = PushGuid guid

-- the operation of a comparison
abbrev pub comparison : CompareKind → Op
comparison kinds.Eq = Eq
comparison kinds.Gt = Gt
comparison kinds.Gte = Gte
comparison kinds.Lt = Lt
comparison kinds.Lte = Lte

-- the postfix form of a tree: the right operand, the left operand, the operation
abbrev pub post : Tree → List Op
post tree.True = True ∷ []
post tree.False = False ∷ []
post (tree.Not t) = post t ++ Not ∷ []
post (tree.And left right) = post right ++ post left ++ And ∷ []
post (tree.Or left right) = post right ++ post left ++ Or ∷ []
post (tree.Compare kind left right) = push right ∷ push left ∷ comparison kind ∷ []

-- the operations that take or give a value are the postfix form of this tree
abbrev pub IsTreeOf : Tree → List Op → Type 0
IsTreeOf t ops = computing ops ≡ post t
