-- The dependency section of an update image (UEFI 2.10, 23.2), which stands behind its
-- authentication data.
use Rattle.std.specs.Prelude.{◌≡◌, ℕ, ◌≤◌, Bool, true, false, List, length, take}
use Rattle.dep_code.specs.declared.op.Op.{Op}
use Rattle.dep_code.specs.Sections.{IsSection}
use Rattle.dep_code.specs.Tree.{Tree}

-- the bytes are one section, of some operations and a tree
pub record IsOneSection (bytes : List ℕ) : Type 0 where
  pub ops : List Op
  pub tree : Tree
  pub is_section : IsSection bytes ops tree

-- a section of this length stands at the front of the bytes
pub record BeginsWithSection (bytes : List ℕ) (size : ℕ) : Type 0 where
  pub there : size ≤ length bytes
  pub section : IsOneSection (take size bytes)

-- a section of some length stands there
pub record BeginsWithSome (bytes : List ℕ) : Type 0 where
  pub size : ℕ
  pub begins : BeginsWithSection bytes size

-- so many bytes of the front are the section: its length where one is due, and none where none is
abbrev pub TakesSection : Bool → List ℕ → ℕ → Type 0
TakesSection true bytes size = BeginsWithSection bytes size
TakesSection false bytes size = size ≡ 0
