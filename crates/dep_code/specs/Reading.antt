-- What is known of the operations that were read up to END, before their types are looked at.
use Rattle.std.specs.Prelude.{◌≡◌, ℕ, ◌≤◌, List, [], ◌∷◌, ◌++◌, length, take}
use Rattle.dep_code.specs.declared.limits.TheConstants.{MAX_SECTION_BYTES}
use Rattle.dep_code.specs.declared.op.Op.{Op}
use Rattle.dep_code.specs.declared.op.Op.TheVariants.{End}
use Rattle.dep_code.specs.Operations.{section_bytes}
use Rattle.dep_code.specs.Sections.{AreBeforeEnd, ops_of, placed}

-- the first bytes, this many of them, are these operations with their places, of which END is the
-- last
pub record EndsAt (bytes : List ℕ) (items : List (ℕ × Op)) (size : ℕ) : Type 0 where
  pub before : List Op
  pub kept : AreBeforeEnd before
  pub whole : ops_of items ≡ before ++ End ∷ []
  pub spelled : take size bytes ≡ section_bytes (ops_of items)
  pub there : size ≤ length bytes
  pub limit : size ≤ MAX_SECTION_BYTES
  pub places : items ≡ placed 0 (ops_of items)
