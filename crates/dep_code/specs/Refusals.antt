-- When bytes are refused as a dependency section: at the first place where an operation breaks a
-- rule, and where none does, by what the operations up to END say together (UEFI 2.10, 23.2).
use Rattle.std.specs.Prelude.{◌≡◌, ℕ, ◌+◌, ◌-◌, ◌≤◌, ◌⊎◌, ◌||◌, ◌&&◌, not, List, [], ◌∷◌, ◌++◌}
use Rattle.std.specs.Prelude.{length, take, drop, map, slice_index, nat_lt, ◌==◌, if◌then◌else◌}
use Rattle.std.specs.Prelude.{Option, None, Some, Result, Ok, Err}
use Rattle.std.specs.List.{range_with_len, prefix_len}
use Rattle.cu_base.specs.Refusals.{Row, row_at, first_refusal, AnswersBy}
use Rattle.dep_code.specs.declared.limits.TheConstants.{MAX_SECTION_BYTES}
use Rattle.dep_code.specs.declared.op.Op.{Op}
use Rattle.dep_code.specs.declared.op.Op.TheVariants.{End}
use Rattle.dep_code.specs.declared.fault.DepRefusal.{DepRefusal}
use Rattle.dep_code.specs.declared.fault.DepRefusal.TheVariants.{Dep, Memory}
use Rattle.dep_code.specs.declared.fault.DepWhy.{DepWhy}
use Rattle.dep_code.specs.declared.fault.DepWhy.TheVariants.{NoEnd, BadOpcode, CutOperand}
use Rattle.dep_code.specs.declared.fault.DepWhy.TheVariants.{LateDeclare, WrongDeclare, BadTypes}
use Rattle.dep_code.specs.declared.fault.DepWhy.TheVariants.{NotOneBool, TooLong}
use Rattle.dep_code.specs.Operations.{section_bytes, is_nonzero}
use Rattle.dep_code.specs.Sections.{AreBeforeEnd, is_declared}
use Rattle.dep_code.specs.Typing.{is_typed, leaves_one_truth}

-- ---- one operation

-- the byte of the operation at the front
abbrev pub first_byte : List ℕ → ℕ
first_byte rest = slice_index rest 0

-- how many bytes stand before the first zero, or all where there is none
abbrev pub text_size : List ℕ → ℕ
text_size bytes = prefix_len is_nonzero bytes

-- how many bytes the operation at the front takes; a text without a zero byte takes more than there
-- are
abbrev pub op_size : List ℕ → ℕ
op_size rest =
    if first_byte rest == 0x00 then 17
    else if first_byte rest == 0x02 then text_size (drop 1 rest) + 2
    else if (first_byte rest == 0x01) || (first_byte rest == 0x0E) then 5
    else 1

-- the rows of the operation at a place, of which this is the rest of the bytes from there on
abbrev pub place_rows : List ℕ → ℕ → List (Row (ℕ × DepWhy))
place_rows rest at =
    row_at (at == MAX_SECTION_BYTES) at TooLong
    ∷ row_at (length rest == 0) at NoEnd
    ∷ row_at (nat_lt 0x0E (first_byte rest)) at BadOpcode
    ∷ row_at (nat_lt (length rest) (op_size rest)) at CutOperand
    ∷ row_at (nat_lt MAX_SECTION_BYTES (at + op_size rest)) at TooLong
    ∷ row_at ((first_byte rest == 0x0E) && nat_lt 0 at) at LateDeclare
    ∷ []

-- the bytes are operations before an END, within the limit, and this rest behind them
pub record IsFront (ops : List Op) (rest bytes : List ℕ) : Type 0 where
  pub kept : AreBeforeEnd ops
  pub within : length (section_bytes ops) ≤ MAX_SECTION_BYTES
  pub whole : bytes ≡ section_bytes ops ++ rest

-- the operations before this place keep the rules, and what stands there does not
pub record BreaksOff (bytes : List ℕ) (at : ℕ) (why : DepWhy) : Type 0 where
  pub ops : List Op
  pub rest : List ℕ
  pub front : IsFront ops rest bytes
  pub refused : first_refusal (place_rows rest (length (section_bytes ops))) ≡ Some (at, why)

-- ---- all operations up to END

-- the place of operation k
abbrev pub place_of : List Op → ℕ → ℕ
place_of ops k = length (section_bytes (take k ops))

-- the row of the types of operation k
abbrev pub type_row : List Op → ℕ → Row (ℕ × DepWhy)
type_row ops k = row_at (not (is_typed (take (k + 1) ops))) (place_of ops k) BadTypes

-- the rows of the types of operations up to END, from the front, and of what is left at END
abbrev pub type_rows : List Op → List (Row (ℕ × DepWhy))
type_rows ops =
    map (type_row ops) (range_with_len 0 (length ops))
    ++ row_at (not (leaves_one_truth ops)) (place_of ops (length ops - 1)) NotOneBool ∷ []

-- the rows of operations up to END: the declared length, then the types
abbrev pub section_rows : List Op → List (Row (ℕ × DepWhy))
section_rows ops = row_at (not (is_declared ops)) 1 WrongDeclare ∷ type_rows ops

-- the operations up to END keep the rules one by one, and together they do not
pub record EndsWrong (bytes : List ℕ) (at : ℕ) (why : DepWhy) : Type 0 where
  pub before : List Op
  pub rest : List ℕ
  pub front : IsFront before (section_bytes (End ∷ []) ++ rest) bytes
  pub within : length (section_bytes (before ++ End ∷ [])) ≤ MAX_SECTION_BYTES
  pub refused : first_refusal (section_rows (before ++ End ∷ [])) ≡ Some (at, why)

-- ---- the refusal

-- the bytes are refused at this place for this cause
abbrev pub IsRefused : List ℕ → ℕ → DepWhy → Type 0
IsRefused bytes at why = BreaksOff bytes at why ⊎ EndsWrong bytes at why

-- the answer is this refusal of the bytes, or want of memory, which is free
abbrev pub IsRefusalOf : DepRefusal → List ℕ → Type 0
IsRefusalOf (Dep fault) bytes = IsRefused bytes fault.at fault.why
IsRefusalOf Memory bytes = Unit {0}

-- the answer is this section and length, or want of memory, which is free
abbrev pub IsFound : List (ℕ × Op) → ℕ → Result (List (ℕ × Op) × ℕ) DepRefusal → Type 0
IsFound items size (Ok x) = (x.0 ≡ items) × (x.1 ≡ size)
IsFound items size (Err (Dep fault)) = ⊥
IsFound items size (Err Memory) = Unit {0}

-- the place and the cause that a refusal tells; want of memory tells none
abbrev pub told : DepRefusal → Option (ℕ × DepWhy)
told (Dep fault) = Some (fault.at, fault.why)
told Memory = None

-- the answer is Ok where nothing is refused, or this refusal, or want of memory, which is free
abbrev pub Answers : {X : Type 0} → Result X DepRefusal → Option (ℕ × DepWhy) → Type 0
Answers result refused = AnswersBy told result refused
