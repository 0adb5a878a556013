-- The parts of an update image (UEFI 2.10, 23.1 and 23.2; EDK II, FmpDevicePkg), as they are
-- written one behind another. No length is followed: each stands for what its bytes are.
use Rattle.std.specs.Prelude.{◌≡◌, ℕ, List, [], ◌++◌, Option, None, Some, is_some, IfSome}
use Rattle.image_parts.specs.Authentication.{authentication_bytes, IsAuthentication}
use Rattle.image_parts.specs.PayloadHeader.{payload_head_bytes, IsPayloadHead}
use Rattle.image_parts.specs.Section.{IsOneSection}
use Rattle.image_parts.specs.Support.{has_authentication, has_section}
use Rattle.image_parts.specs.Values.{AuthValue, PartsValue}

-- the bytes of authentication data, if there is any
abbrev pub auth_bytes : Option AuthValue → List ℕ
auth_bytes None = []
auth_bytes (Some a) = authentication_bytes a

-- the bytes of a section, if there is one
abbrev pub dep_bytes : Option (List ℕ) → List ℕ
dep_bytes None = []
dep_bytes (Some bytes) = bytes

-- authentication data, section, payload header, extra bytes and payload, one behind another
abbrev pub parts_bytes : PartsValue → List ℕ
parts_bytes p =
    auth_bytes p.auth ++ dep_bytes p.dep ++ payload_head_bytes p.head ++ p.extra ++ p.payload

-- The image is these parts: authentication data exactly where bit 0 of the support is set, one
-- section exactly where bit 1 is set, and each part has its form.
pub record IsPartsOf (image : List ℕ) (support : ℕ) (p : PartsValue) : Type 0 where
  pub whole : image ≡ parts_bytes p
  pub auth : is_some p.auth ≡ has_authentication support
  pub authentication : IfSome p.auth IsAuthentication
  pub dep : is_some p.dep ≡ has_section support
  pub section : IfSome p.dep IsOneSection
  pub head : IsPayloadHead p.head p.extra
