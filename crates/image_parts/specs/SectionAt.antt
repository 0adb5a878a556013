-- The section at the front of bytes, as a function (UEFI 2.10, 23.2). It is had from the law that
-- bytes begin with a section or are refused, so that there is one text of what a section is.
use Rattle.std.specs.Prelude.{◌≡◌, ℕ, Bool, true, false, List, Option, None, Some, nat_lt}
use Rattle.std.proofs.Common.{refl, inl, inr}
use Rattle.std.specs.List.{list_all}
use Rattle.dep_code.proofs.ByteTests.{bytes_from}
use Rattle.dep_code.proofs.Decided.{Decided, section_or_refused_lemma}
use Rattle.dep_code.specs.declared.op.Op.{Op}
use Rattle.dep_code.specs.Sections.{ops_of}
use Rattle.dep_code.specs.Tree.{Tree}

-- each number is a byte, as those of every file are
abbrev pub are_bytes : List ℕ → Bool
are_bytes bytes = list_all (λ b. nat_lt b 256) bytes

-- the operations, the tree and the length of the section that was found, where one was
abbrev pub section_found : (bytes : List ℕ) → Decided bytes → Option (List Op × Tree × ℕ)
section_found bytes (inl (items, size, front)) = Some (ops_of items, front.tree, size)
section_found bytes (inr refusal) = None

-- the section at the front of numbers that are bytes or are not; of those that are not there is
-- none
unfoldable pub section_where : (bytes : List ℕ) (are : Bool) → are_bytes bytes ≡ are
    → Option (List Op × Tree × ℕ)
section_where bytes true is =
    section_found bytes (section_or_refused_lemma bytes (bytes_from bytes is))
section_where bytes false is = None

-- operations, tree and length of the section at the front of bytes, None where they are refused
unfoldable pub section_at : List ℕ → Option (List Op × Tree × ℕ)
section_at bytes = section_where bytes (are_bytes bytes) refl
