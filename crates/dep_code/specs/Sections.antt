-- When bytes are a dependency section (UEFI 2.10, 23.2): they are operations that end with END and
-- are the postfix form of a tree. Its limit, and what DECLARE_LENGTH says and where it stands, are
-- this tool's own.
use Rattle.std.specs.Prelude.{◌≡◌, ℕ, ◌+◌, ◌≤◌, Bool, true, not, IsTrue, List, [], ◌∷◌, ◌++◌}
use Rattle.std.specs.Prelude.{length, take, drop, map, ◌==◌}
use Rattle.std.specs.List.{list_all, AllByRecursion}
use Rattle.dep_code.specs.declared.limits.TheConstants.{MAX_SECTION_BYTES}
use Rattle.dep_code.specs.declared.op.Op.{Op}
use Rattle.dep_code.specs.declared.op.Op.TheVariants.{PushGuid, PushVersion, VersionStr, And, Or}
use Rattle.dep_code.specs.declared.op.Op.TheVariants.{Not, True, False, Eq, Gt, Gte, Lt, Lte, End}
use Rattle.dep_code.specs.declared.op.Op.TheVariants.{DeclareLength}
use Rattle.dep_code.specs.Operations.{op_bytes, section_bytes, HasForm, is_end, is_declare}
use Rattle.dep_code.specs.Tree.{Tree}
use Rattle.dep_code.specs.Trees.{IsTreeOf}

-- the operation is not END
abbrev pub goes_on : Op → Bool
goes_on op = not (is_end op)

-- the operation may stand behind another: it is not DECLARE_LENGTH
abbrev pub may_follow : Op → Bool
may_follow op = not (is_declare op)

-- operations before an END: each has its form, none is END, and only the first may be
-- DECLARE_LENGTH
pub record AreBeforeEnd (ops : List Op) : Type 0 where
  pub forms : AllByRecursion HasForm ops
  pub no_end : IsTrue (list_all goes_on ops)
  pub declare : IsTrue (list_all may_follow (drop 1 ops))

-- the number that an operation declares, if it declares one, is this
abbrev pub may_declare : ℕ → Op → Bool
may_declare size (PushGuid guid) = true
may_declare size (PushVersion version) = true
may_declare size (VersionStr text) = true
may_declare size And = true
may_declare size Or = true
may_declare size Not = true
may_declare size True = true
may_declare size False = true
may_declare size Eq = true
may_declare size Gt = true
may_declare size Gte = true
may_declare size Lt = true
may_declare size Lte = true
may_declare size End = true
may_declare size (DeclareLength declared) = declared == size

-- a declared length is that of the bytes of the operations
abbrev pub is_declared : List Op → Bool
is_declared ops = list_all (may_declare (length (section_bytes ops))) ops

-- the bytes are a section of these operations and this tree
pub record IsSection (bytes : List ℕ) (ops : List Op) (tree : Tree) : Type 0 where
  pub before : List Op
  pub kept : AreBeforeEnd before
  pub whole : ops ≡ before ++ End ∷ []
  pub spelled : bytes ≡ section_bytes ops
  pub limit : length bytes ≤ MAX_SECTION_BYTES
  pub declared : IsTrue (is_declared ops)
  pub reads : IsTreeOf tree ops

-- the operations of a list of places and operations
abbrev pub ops_of : List (ℕ × Op) → List Op
ops_of placed = map (λ p. p.1) placed

-- operations with their places, the first of which is given
abbrev pub placed : ℕ → List Op → List (ℕ × Op)
placed at [] = []
placed at (op ∷ ops) = (at, op) ∷ placed (at + length (op_bytes op)) ops

-- operations with their places in the section that they are
pub record ArePlaced (items : List (ℕ × Op)) : Type 0 where
  pub places : items ≡ placed 0 (ops_of items)
  pub tree : Tree
  pub is_section : IsSection (section_bytes (ops_of items)) (ops_of items) tree

-- a section of these operations, with their places, of this length stands at the front of the bytes
pub record StandsAtFront (bytes : List ℕ) (items : List (ℕ × Op)) (size : ℕ) : Type 0 where
  pub tree : Tree
  pub is_section : IsSection (take size bytes) (ops_of items) tree
  pub there : size ≤ length bytes
  pub places : items ≡ placed 0 (ops_of items)
