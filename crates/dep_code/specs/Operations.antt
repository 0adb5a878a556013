-- The operations of a dependency section and their bytes (UEFI 2.10, 23.2). Operation 0E is this
-- tool's own.
use Rattle.std.specs.Prelude.{◌≡◌, ℕ, ◌^◌, ◌<◌, Bool, not, ◌&&◌, IsTrue, List, [], ◌∷◌, ◌++◌}
use Rattle.std.specs.Prelude.{length, ◌==◌}
use Rattle.std.specs.List.{flat_map, filter, list_all}
use Rattle.cu_base.specs.Fields.{bytes_of}
use Rattle.dep_code.specs.declared.op.Op.{Op}
use Rattle.dep_code.specs.declared.op.Op.TheVariants.{PushGuid, PushVersion, VersionStr, And, Or}
use Rattle.dep_code.specs.declared.op.Op.TheVariants.{Not, True, False, Eq, Gt, Gte, Lt, Lte, End}
use Rattle.dep_code.specs.declared.op.Op.TheVariants.{DeclareLength}

-- the byte of an operation
abbrev pub opcode : Op → ℕ
opcode (PushGuid guid) = 0x00
opcode (PushVersion version) = 0x01
opcode (VersionStr text) = 0x02
opcode And = 0x03
opcode Or = 0x04
opcode Not = 0x05
opcode True = 0x06
opcode False = 0x07
opcode Eq = 0x08
opcode Gt = 0x09
opcode Gte = 0x0A
opcode Lt = 0x0B
opcode Lte = 0x0C
opcode End = 0x0D
opcode (DeclareLength size) = 0x0E

-- the bytes of its operand: a GUID, a u32, or a text and a zero byte
abbrev pub operand : Op → List ℕ
operand (PushGuid guid) = guid.bytes
operand (PushVersion version) = bytes_of 4 version
operand (VersionStr text) = text ++ 0 ∷ []
operand And = []
operand Or = []
operand Not = []
operand True = []
operand False = []
operand Eq = []
operand Gt = []
operand Gte = []
operand Lt = []
operand Lte = []
operand End = []
operand (DeclareLength size) = bytes_of 4 size

-- the bytes of an operation
abbrev pub op_bytes : Op → List ℕ
op_bytes op = opcode op ∷ operand op

-- the bytes of operations, one behind another
abbrev pub section_bytes : List Op → List ℕ
section_bytes ops = flat_map op_bytes ops

-- a byte is not zero
abbrev pub is_nonzero : ℕ → Bool
is_nonzero b = not (b == 0)

-- the operand has its width, and a text has no zero byte
abbrev pub HasForm : Op → Type 0
HasForm (PushGuid guid) = length guid.bytes ≡ 16
HasForm (PushVersion version) = version < 2 ^ 32
HasForm (VersionStr text) = IsTrue (list_all is_nonzero text)
HasForm And = Unit {0}
HasForm Or = Unit {0}
HasForm Not = Unit {0}
HasForm True = Unit {0}
HasForm False = Unit {0}
HasForm Eq = Unit {0}
HasForm Gt = Unit {0}
HasForm Gte = Unit {0}
HasForm Lt = Unit {0}
HasForm Lte = Unit {0}
HasForm End = Unit {0}
HasForm (DeclareLength size) = size < 2 ^ 32

-- the operation is END
abbrev pub is_end : Op → Bool
is_end op = opcode op == 0x0D

-- the operation is DECLARE_LENGTH
abbrev pub is_declare : Op → Bool
is_declare op = opcode op == 0x0E

-- the operation takes or gives a value: all but VERSION_STR, END and DECLARE_LENGTH
abbrev pub computes : Op → Bool
computes op = not (opcode op == 0x02) && not (is_end op) && not (is_declare op)

-- the operations that take or give a value, in order
abbrev pub computing : List Op → List Op
computing ops = filter computes ops
