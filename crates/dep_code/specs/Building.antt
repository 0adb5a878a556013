-- What the operations of a section build: a stack of operands of comparisons and of trees.
use Rattle.std.specs.Prelude.{Bool, true, false, List, [], ◌∷◌, map, Option, Some, None}
use Rattle.std.specs.Prelude.{option_and_then}
use Rattle.dep_code.specs.declared.building.Entry.{Entry as CodeEntry}
use Rattle.dep_code.specs.declared.building.Entry.TheVariants as code
use Rattle.dep_code.specs.declared.op.Op.{Op}
use Rattle.dep_code.specs.declared.op.Op.TheVariants.{PushGuid, PushVersion, VersionStr, And, Or}
use Rattle.dep_code.specs.declared.op.Op.TheVariants.{Not, True, False, Eq, Gt, Gte, Lt, Lte, End}
use Rattle.dep_code.specs.declared.op.Op.TheVariants.{DeclareLength}
use Rattle.dep_code.specs.declared.tree.CompareKind.{CompareKind}
use Rattle.dep_code.specs.declared.tree.CompareKind.TheVariants as kinds
use Rattle.dep_code.specs.declared.tree.Compared.{Compared}
use Rattle.dep_code.specs.declared.tree.Compared.TheVariants as compared
use Rattle.dep_code.specs.Tree as tree
use Rattle.dep_code.specs.Tree.{Tree}
use Rattle.dep_code.specs.Trees.{seen}

-- an operand of a comparison to come, or a tree
pub data Entry : Type 0 where
  Operand : Compared → Entry
  Subtree : Tree → Entry

-- an entry of the program, without where its tree lies in memory
abbrev pub entry_seen : CodeEntry → Entry
entry_seen (code.Operand c) = Operand c
entry_seen (code.Subtree t) = Subtree (seen t)

-- the entries of the program, from the top
abbrev pub entries_seen : List CodeEntry → List Entry
entries_seen entries = map entry_seen entries

-- a tree is at the top
abbrev pub has_tree : List Entry → Bool
has_tree [] = false
has_tree (Operand c ∷ s) = false
has_tree (Subtree t ∷ s) = true

-- an operand is at the top
abbrev pub has_operand : List Entry → Bool
has_operand [] = false
has_operand (Operand c ∷ s) = true
has_operand (Subtree t ∷ s) = false

-- the tree at the top, negated
abbrev pub negated : List Entry → Option (List Entry)
negated [] = None
negated (Operand c ∷ s) = None
negated (Subtree t ∷ s) = Some (Subtree (tree.Not t) ∷ s)

-- one tree of the two at the top, of which the upper is the left one
abbrev pub joined : (Tree → Tree → Tree) → List Entry → Option (List Entry)
joined f [] = None
joined f (Operand c ∷ s) = None
joined f (Subtree t ∷ []) = None
joined f (Subtree t ∷ Operand c ∷ s) = None
joined f (Subtree t ∷ Subtree u ∷ s) = Some (Subtree (f t u) ∷ s)

-- the comparison of the two operands at the top, of which the upper is the left one
abbrev pub compared_by : CompareKind → List Entry → Option (List Entry)
compared_by kind [] = None
compared_by kind (Subtree t ∷ s) = None
compared_by kind (Operand c ∷ []) = None
compared_by kind (Operand c ∷ Subtree t ∷ s) = None
compared_by kind (Operand c ∷ Operand d ∷ s) = Some (Subtree (tree.Compare kind c d) ∷ s)

-- the stack behind an operation, and None where its operands are missing or of the other type
abbrev pub entries_behind : Op → List Entry → Option (List Entry)
entries_behind (PushGuid guid) s = Some (Operand (compared.Guid guid) ∷ s)
entries_behind (PushVersion version) s = Some (Operand (compared.Version version) ∷ s)
entries_behind (VersionStr text) s = Some s
entries_behind And s = joined tree.And s
entries_behind Or s = joined tree.Or s
entries_behind Not s = negated s
entries_behind True s = Some (Subtree tree.True ∷ s)
entries_behind False s = Some (Subtree tree.False ∷ s)
entries_behind Eq s = compared_by kinds.Eq s
entries_behind Gt s = compared_by kinds.Gt s
entries_behind Gte s = compared_by kinds.Gte s
entries_behind Lt s = compared_by kinds.Lt s
entries_behind Lte s = compared_by kinds.Lte s
entries_behind End s = Some s
entries_behind (DeclareLength size) s = Some s

-- the stack behind operations
abbrev pub entries_after : List Entry → List Op → Option (List Entry)
entries_after s [] = Some s
entries_after s (op ∷ ops) = option_and_then (λ next. entries_after next ops) (entries_behind op s)
