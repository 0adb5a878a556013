-- Bytes that are one dependency section (UEFI 2.10, 23.2), as a test. Bytes begin with one section
-- or are refused, and never both; which of the two is decided.
use Rattle.std.specs.Prelude.{ℕ, ◌%◌, ◌<◌, Bool, false, List, [], ◌∷◌, length, map, ◌==◌, ◌⊎◌}
use Rattle.std.specs.List.{AllByRecursion}
use Rattle.std.proofs.Common.{inl, inr, lit<}
use Rattle.std.proofs.Math.Nat.{mod-lt}
use Rattle.cu_base.specs.Bytes.{IsBytes}
use Rattle.cu_base.proofs.Fields.{IsBytes-from}
use Rattle.dep_code.proofs.Decided.{section_or_refused_lemma}
use Rattle.dep_code.specs.declared.op.Op.{Op}
use Rattle.dep_code.specs.declared.fault.DepWhy.{DepWhy}
use Rattle.dep_code.specs.Refusals.{IsRefused}
use Rattle.dep_code.specs.Sections.{StandsAtFront}

-- a section stands at the front of the bytes, or they are refused
abbrev pub Verdict : List ℕ → Type 0
Verdict bytes =
    ((items : List (ℕ × Op)) × (size : ℕ) × StandsAtFront bytes items size)
    ⊎ ((at : ℕ) × (why : DepWhy) × IsRefused bytes at why)

-- the section that stands at the front is the whole
abbrev pub is_whole : (bytes : List ℕ) → Verdict bytes → Bool
is_whole bytes (inl found) = found.1 == length bytes
is_whole bytes (inr refusal) = false

-- a number as a byte
abbrev pub as_byte : ℕ → ℕ
as_byte n = n % 256

each_is_byte : (ns : List ℕ) → AllByRecursion (λ b. b < 256) (map as_byte ns)
each_is_byte [] = tt
each_is_byte (n ∷ ns) = (mod-lt n (lit< tt), each_is_byte ns)

-- they are bytes
pub are_bytes : (ns : List ℕ) → IsBytes (map as_byte ns)
are_bytes ns = IsBytes-from (map as_byte ns) (each_is_byte ns)

-- the bytes are one section
unfoldable pub is_section : List ℕ → Bool
is_section bytes =
    is_whole (map as_byte bytes) (section_or_refused_lemma (map as_byte bytes) (are_bytes bytes))
