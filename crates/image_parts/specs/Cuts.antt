-- The parts of an update image by their places: where each begins and ends by what the ones before
-- it say.
use Rattle.std.specs.Prelude.{◌≡◌, ℕ, ◌+◌, ◌-◌, List, [], length, drop, Option, None, Some}
use Rattle.std.specs.Prelude.{if◌then◌else◌}
use Rattle.cu_base.specs.Fields.{field}
use Rattle.cu_base.specs.Refusals.{Row, first_refusal}
use Rattle.image_parts.specs.declared.fault.PartWhy.{PartWhy}
use Rattle.image_parts.specs.Authentication.{authentication_at, authentication_rows_of}
use Rattle.image_parts.specs.Authentication.{authentication_size}
use Rattle.image_parts.specs.PayloadHeader.{header_size, payload_head_at, payload_header_rows}
use Rattle.image_parts.specs.Section.{TakesSection}
use Rattle.image_parts.specs.Support.{has_authentication, has_section}
use Rattle.image_parts.specs.Values.{AuthValue, PartsValue}

-- where the authentication data ends
abbrev pub auth_end : List ℕ → ℕ → ℕ
auth_end image support = if has_authentication support then authentication_size image else 0

-- the authentication data, where it is due
abbrev pub auth_at : List ℕ → ℕ → Option AuthValue
auth_at image support = if has_authentication support then Some (authentication_at image) else None

-- what stands behind the authentication data
abbrev pub behind_auth : List ℕ → ℕ → List ℕ
behind_auth image support = drop (auth_end image support) image

-- the rows of the authentication data, where it is due, of an image of this size that has this front
abbrev pub auth_rows_of : List ℕ → ℕ → ℕ → List (Row (ℕ × PartWhy))
auth_rows_of front size support =
    if has_authentication support then authentication_rows_of front size else []

-- the rows of the authentication data, where it is due
abbrev pub auth_rows : List ℕ → ℕ → List (Row (ℕ × PartWhy))
auth_rows image support = auth_rows_of image (length image) support

-- the section of this length at a place, where one is due
abbrev pub dep_at : List ℕ → ℕ → ℕ → ℕ → Option (List ℕ)
dep_at image support start size =
    if has_section support then Some (field image start size) else None

-- what stands behind a section of this length
abbrev pub behind_section : List ℕ → ℕ → ℕ → List ℕ
behind_section image support size = drop (auth_end image support + size) image

-- the rows of the payload header behind a section of this length
abbrev pub head_rows : List ℕ → ℕ → ℕ → List (Row (ℕ × PartWhy))
head_rows image support size =
    payload_header_rows (behind_section image support size) (auth_end image support + size)

-- the parts at their places, the section being of this length
abbrev pub parts_at : List ℕ → ℕ → ℕ → PartsValue
parts_at image support size =
    let rest = behind_section image support size in
    record {
      auth = auth_at image support;
      dep = dep_at image support (auth_end image support) size;
      head = payload_head_at rest;
      extra = field rest 16 (header_size rest - 16);
      payload = drop (header_size rest) rest;
    }

-- nothing of the image is refused, and these are its parts at their places
pub record IsCutInto (image : List ℕ) (support : ℕ) (p : PartsValue) : Type 0 where
  pub auth : first_refusal (auth_rows image support) ≡ None
  pub size : ℕ
  pub section : TakesSection (has_section support) (behind_auth image support) size
  pub head : first_refusal (head_rows image support size) ≡ None
  pub parts : p ≡ parts_at image support size
