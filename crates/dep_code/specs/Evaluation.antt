-- What the operations of a section compute over a list of versions: a stack of numbers and truth
-- values.
use Rattle.std.specs.Prelude.{ℕ, Bool, true, false, not, ◌&&◌, ◌||◌, List, [], ◌∷◌, Option, Some}
use Rattle.std.specs.Prelude.{None, is_some}
use Rattle.cu_base.specs.declared.guid.Guid.{Guid}
use Rattle.dep_code.specs.declared.evaluation.Value.{Value}
use Rattle.dep_code.specs.declared.evaluation.Value.TheVariants.{Number, Truth}
use Rattle.dep_code.specs.declared.op.Op.{Op}
use Rattle.dep_code.specs.declared.op.Op.TheVariants.{PushGuid, PushVersion, VersionStr, And, Or}
use Rattle.dep_code.specs.declared.op.Op.TheVariants.{Not, True, False, Eq, Gt, Gte, Lt, Lte, End}
use Rattle.dep_code.specs.declared.op.Op.TheVariants.{DeclareLength}
use Rattle.dep_code.specs.declared.tree.CompareKind.{CompareKind}
use Rattle.dep_code.specs.declared.tree.CompareKind.TheVariants as kinds
use Rattle.dep_code.specs.declared.tree.Compared.TheVariants as compared
use Rattle.dep_code.specs.Values.{version_of, number_of, holds}

-- the GUID that an operation names is in the list, if it names one
abbrev pub knows : List (Guid × ℕ) → Op → Bool
knows versions (PushGuid guid) = is_some (version_of versions guid)
knows versions (PushVersion version) = true
knows versions (VersionStr text) = true
knows versions And = true
knows versions Or = true
knows versions Not = true
knows versions True = true
knows versions False = true
knows versions Eq = true
knows versions Gt = true
knows versions Gte = true
knows versions Lt = true
knows versions Lte = true
knows versions End = true
knows versions (DeclareLength size) = true

-- the truth value at the top, negated
abbrev pub negated_value : List Value → Option (List Value)
negated_value [] = None
negated_value (Number n ∷ s) = None
negated_value (Truth b ∷ s) = Some (Truth (not b) ∷ s)

-- one truth value of the two at the top, of which the upper is the left one
abbrev pub joined_values : (Bool → Bool → Bool) → List Value → Option (List Value)
joined_values f [] = None
joined_values f (Number n ∷ s) = None
joined_values f (Truth b ∷ []) = None
joined_values f (Truth b ∷ Number n ∷ s) = None
joined_values f (Truth b ∷ Truth c ∷ s) = Some (Truth (f b c) ∷ s)

-- the comparison of the two numbers at the top, of which the upper is the left one
abbrev pub compared_values : CompareKind → List Value → Option (List Value)
compared_values kind [] = None
compared_values kind (Truth b ∷ s) = None
compared_values kind (Number n ∷ []) = None
compared_values kind (Number n ∷ Truth b ∷ s) = None
compared_values kind (Number n ∷ Number m ∷ s) = Some (Truth (holds kind n m) ∷ s)

-- the stack behind an operation, and None where its operands are missing or of the other type
abbrev pub values_behind : List (Guid × ℕ) → Op → List Value → Option (List Value)
values_behind versions (PushGuid guid) s =
    Some (Number (number_of versions (compared.Guid guid)) ∷ s)
values_behind versions (PushVersion version) s = Some (Number version ∷ s)
values_behind versions (VersionStr text) s = Some s
values_behind versions And s = joined_values ◌&&◌ s
values_behind versions Or s = joined_values ◌||◌ s
values_behind versions Not s = negated_value s
values_behind versions True s = Some (Truth true ∷ s)
values_behind versions False s = Some (Truth false ∷ s)
values_behind versions Eq s = compared_values kinds.Eq s
values_behind versions Gt s = compared_values kinds.Gt s
values_behind versions Gte s = compared_values kinds.Gte s
values_behind versions Lt s = compared_values kinds.Lt s
values_behind versions Lte s = compared_values kinds.Lte s
values_behind versions End s = Some s
values_behind versions (DeclareLength size) s = Some s

-- a truth value is at the top
abbrev pub has_truth : List Value → Bool
has_truth [] = false
has_truth (Number n ∷ s) = false
has_truth (Truth b ∷ s) = true

-- a number is at the top
abbrev pub has_number : List Value → Bool
has_number [] = false
has_number (Number n ∷ s) = true
has_number (Truth b ∷ s) = false
