-- The parts of an update image as a function (UEFI 2.10, 23.1 and 23.2; EDK II, FmpDevicePkg): they
-- are read at their places where no row of the tables holds.
use Rattle.std.specs.Prelude.{ℕ, Bool, true, false, List, Option, None, Some, is_some, option_map}
use Rattle.std.specs.Prelude.{option_and_then, if◌then◌else◌}
use Rattle.cu_base.specs.Refusals.{first_refusal}
use Rattle.image_parts.specs.Cuts.{auth_rows, behind_auth, head_rows, parts_at}
use Rattle.image_parts.specs.SectionAt.{section_at}
use Rattle.image_parts.specs.Support.{has_section}
use Rattle.image_parts.specs.Values.{PartsValue}

-- how many bytes the section takes, none where none is due; None where it is refused
abbrev pub section_size : Bool → List ℕ → Option ℕ
section_size true bytes = option_map (λ s. s.2) (section_at bytes)
section_size false bytes = Some 0

-- the parts of an image whose section is of this length
abbrev pub parts_behind : List ℕ → ℕ → ℕ → Option PartsValue
parts_behind image support size =
    if is_some (first_refusal (head_rows image support size)) then None
    else Some (parts_at image support size)

-- the parts of an image of this support, None where it is refused
abbrev pub parts_of : List ℕ → ℕ → Option PartsValue
parts_of image support =
    if is_some (first_refusal (auth_rows image support)) then None
    else option_and_then (parts_behind image support)
    (section_size (has_section support) (behind_auth image support))
