-- The types of a dependency section: each operation takes values from a stack and leaves one there.
-- A value is a number or a truth value.
use Rattle.std.specs.Prelude.{Bool, true, false, List, [], ◌∷◌, ◌++◌, Option, None, Some}
use Rattle.std.specs.Prelude.{option_map, option_and_then, is_some}
use Rattle.dep_code.specs.declared.op.Op.{Op}
use Rattle.dep_code.specs.declared.op.Op.TheVariants.{PushGuid, PushVersion, VersionStr, And, Or}
use Rattle.dep_code.specs.declared.op.Op.TheVariants.{Not, True, False, Eq, Gt, Gte, Lt, Lte, End}
use Rattle.dep_code.specs.declared.op.Op.TheVariants.{DeclareLength}
use Rattle.dep_code.specs.declared.kind.Kind.{Kind}
use Rattle.dep_code.specs.declared.kind.Kind.TheVariants.{Number, Truth}

-- what an operation takes from the stack, from the top
abbrev pub takes : Op → List Kind
takes (PushGuid guid) = []
takes (PushVersion version) = []
takes (VersionStr text) = []
takes And = Truth ∷ Truth ∷ []
takes Or = Truth ∷ Truth ∷ []
takes Not = Truth ∷ []
takes True = []
takes False = []
takes Eq = Number ∷ Number ∷ []
takes Gt = Number ∷ Number ∷ []
takes Gte = Number ∷ Number ∷ []
takes Lt = Number ∷ Number ∷ []
takes Lte = Number ∷ Number ∷ []
takes End = []
takes (DeclareLength size) = []

-- what it leaves there
abbrev pub gives : Op → List Kind
gives (PushGuid guid) = Number ∷ []
gives (PushVersion version) = Number ∷ []
gives (VersionStr text) = []
gives And = Truth ∷ []
gives Or = Truth ∷ []
gives Not = Truth ∷ []
gives True = Truth ∷ []
gives False = Truth ∷ []
gives Eq = Truth ∷ []
gives Gt = Truth ∷ []
gives Gte = Truth ∷ []
gives Lt = Truth ∷ []
gives Lte = Truth ∷ []
gives End = []
gives (DeclareLength size) = []

-- a stack without these at its top, and None where they are not there
abbrev pub without : List Kind → List Kind → Option (List Kind)
without [] stack = Some stack
without (kind ∷ kinds) [] = None
without (Number ∷ kinds) (Number ∷ stack) = without kinds stack
without (Number ∷ kinds) (Truth ∷ stack) = None
without (Truth ∷ kinds) (Number ∷ stack) = None
without (Truth ∷ kinds) (Truth ∷ stack) = without kinds stack

-- the stack behind an operation, and None where its operands are missing or of the other type
abbrev pub stack_behind : Op → List Kind → Option (List Kind)
stack_behind op stack = option_map (λ left. gives op ++ left) (without (takes op) stack)

-- the stack behind operations
abbrev pub stack_after : List Kind → List Op → Option (List Kind)
stack_after stack [] = Some stack
stack_after stack (op ∷ ops) = option_and_then (λ next. stack_after next ops)
    (stack_behind op stack)

-- each of the operations finds its operands on the stack
abbrev pub is_typed : List Op → Bool
is_typed ops = is_some (stack_after [] ops)

-- there is a stack, of one truth value
abbrev pub is_one_truth : Option (List Kind) → Bool
is_one_truth None = false
is_one_truth (Some []) = false
is_one_truth (Some (Number ∷ stack)) = false
is_one_truth (Some (Truth ∷ [])) = true
is_one_truth (Some (Truth ∷ kind ∷ stack)) = false

-- the operations leave one truth value, and nothing beside it
abbrev pub leaves_one_truth : List Op → Bool
leaves_one_truth ops = is_one_truth (stack_after [] ops)
