-- The parts of an update image as contracts see them: slices as their bytes.
use Rattle.std.specs.Prelude.{ℕ, List, Option, option_map}
use Rattle.cu_base.specs.declared.guid.Guid.{Guid}
use Rattle.image_parts.specs.declared.value.AuthParts.{AuthParts}
use Rattle.image_parts.specs.declared.value.Parts.{Parts}
use Rattle.image_parts.specs.declared.value.PayloadHead.{PayloadHead}

-- monotonic count, certificate type and certificate of authentication data
pub record AuthValue : Type 0 where
  pub monotonic : ℕ
  pub cert_type : Guid
  pub cert : List ℕ

-- authentication data, dependency section, payload header, what stands between its fields and its
-- end, and payload
pub record PartsValue : Type 0 where
  pub auth : Option AuthValue
  pub dep : Option (List ℕ)
  pub head : PayloadHead
  pub extra : List ℕ
  pub payload : List ℕ

-- authentication data of the program, without where its bytes lie in memory
abbrev pub auth_seen : AuthParts → AuthValue
auth_seen a = record { monotonic = a.monotonic; cert_type = a.cert_type; cert = a.cert.now }

-- parts of the program, without where their bytes lie in memory
abbrev pub parts_seen : Parts → PartsValue
parts_seen p = record {
  auth = option_map auth_seen p.auth;
  dep = option_map (λ d. d.now) p.dep;
  head = p.head;
  extra = p.extra.now;
  payload = p.payload.now;
}
