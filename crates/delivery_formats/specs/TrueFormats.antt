-- The formats of the reference machine as the crates of formats have them.
use Rattle.std.specs.Prelude.{ℕ, Bool, false, List, Option, None, Some, map, option_map}
use Rattle.cu_base.specs.declared.guid.Guid.{Guid}
use Rattle.dep_code.specs.declared.op.Op.{Op}
use Rattle.dep_code.specs.Tree.{Tree}
use Rattle.dep_code.specs.Values.{is_satisfied}
use Rattle.image_parts.specs.PartsOf.{parts_of}
use Rattle.image_parts.specs.SectionAt.{section_at}
use Rattle.capsule_grammar.specs.CapsulesOf.{capsules_of}
use Rattle.scatter_list.specs.Coalesced.{coalesced_of}
use Rattle.reference_machine.specs.Formats as machine
use Rattle.delivery_formats.specs.Seen.{machine_capsule, machine_parts}

-- the versions satisfy the tree of a section; they satisfy none that is refused
abbrev pub is_satisfied_by : List (Guid × ℕ) → Option (List Op × Tree × ℕ) → Bool
is_satisfied_by versions None = false
is_satisfied_by versions (Some section) = is_satisfied versions section.1

-- Capsules back to back (UEFI 2.10, 8.5.3), the parts of an update image (23.1 and 23.2), the
-- dependency section at the front of bytes (23.2), and the bytes behind a scatter list (8.5.3).
abbrev pub true_formats : machine.Formats
true_formats = record {
  capsules = λ bytes. option_map (map machine_capsule) (capsules_of bytes);
  parts = λ image support. option_map machine_parts (parts_of image support);
  is_satisfied = λ section versions. is_satisfied_by versions (section_at section);
  coalesced = coalesced_of;
}
