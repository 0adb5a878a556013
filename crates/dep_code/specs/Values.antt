-- Whether versions satisfy a dependency (UEFI 2.10, 23.2).
use Rattle.std.specs.Prelude.{◌≡◌, ℕ, Bool, true, false, not, ◌&&◌, ◌||◌, ◌==◌, nat_lt, nat_le}
use Rattle.std.specs.Prelude.{List, Option, option_map, is_some, unwrap_or}
use Rattle.std.specs.List.{find}
use Rattle.std.specs.Str.{bytes_eq}
use Rattle.cu_base.specs.declared.guid.Guid.{Guid}
use Rattle.dep_code.specs.declared.op.Op.{Op}
use Rattle.dep_code.specs.declared.tree.CompareKind.{CompareKind}
use Rattle.dep_code.specs.declared.tree.CompareKind.TheVariants.{Eq, Gt, Gte, Lt, Lte}
use Rattle.dep_code.specs.declared.tree.Compared.{Compared}
use Rattle.dep_code.specs.declared.tree.Compared.TheVariants as compared
use Rattle.dep_code.specs.Tree as tree
use Rattle.dep_code.specs.Tree.{Tree}
use Rattle.dep_code.specs.Trees.{IsTreeOf}

-- the version in the first pair of a GUID
abbrev pub version_of : List (Guid × ℕ) → Guid → Option ℕ
version_of versions guid = option_map (λ p. p.1)
    (find (λ p. bytes_eq p.0.bytes guid.bytes) versions)

-- a GUID is in the list, where the operand names one
abbrev pub is_known : List (Guid × ℕ) → Compared → Bool
is_known versions (compared.Version version) = true
is_known versions (compared.Guid guid) = is_some (version_of versions guid)

-- the number of an operand whose GUID is in the list
abbrev pub number_of : List (Guid × ℕ) → Compared → ℕ
number_of versions (compared.Version version) = version
number_of versions (compared.Guid guid) = unwrap_or (version_of versions guid) 0

-- the comparison holds of a left and a right number
abbrev pub holds : CompareKind → ℕ → ℕ → Bool
holds Eq left right = left == right
holds Gt left right = nat_lt right left
holds Gte left right = nat_le right left
holds Lt left right = nat_lt left right
holds Lte left right = nat_le left right

-- every GUID of the tree is in the list
abbrev pub knows_all : List (Guid × ℕ) → Tree → Bool
knows_all versions tree.True = true
knows_all versions tree.False = true
knows_all versions (tree.Not t) = knows_all versions t
knows_all versions (tree.And left right) = knows_all versions left && knows_all versions right
knows_all versions (tree.Or left right) = knows_all versions left && knows_all versions right
knows_all versions (tree.Compare kind left right) =
    is_known versions left && is_known versions right

-- the value of a tree whose GUIDs are in the list
abbrev pub value : List (Guid × ℕ) → Tree → Bool
value versions tree.True = true
value versions tree.False = false
value versions (tree.Not t) = not (value versions t)
value versions (tree.And left right) = value versions left && value versions right
value versions (tree.Or left right) = value versions left || value versions right
value versions (tree.Compare kind left right) =
    holds kind (number_of versions left) (number_of versions right)

-- every GUID of the tree is in the list, and its value is true
abbrev pub is_satisfied : List (Guid × ℕ) → Tree → Bool
is_satisfied versions t = knows_all versions t && value versions t

-- the answer of the tree of these operations
pub record IsAnswerOf (ops : List Op) (versions : List (Guid × ℕ)) (answer : Bool) : Type 0 where
  pub tree : Tree
  pub is_tree : IsTreeOf tree ops
  pub value : answer ≡ is_satisfied versions tree
