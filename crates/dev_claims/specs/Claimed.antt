-- The claim that is open in a store, and the element that it tells of.
use Rattle.std.specs.Prelude.{ℕ, [], Option, slice_get, option_map, option_and_then, unwrap_or}
use Rattle.std.specs.Prelude.{IfSome, replicate}
use Rattle.bench_model.specs.Boards.{BoardValue}
use Rattle.cu_base.specs.declared.guid.Guid.{Guid}
use Rattle.dev_claims.specs.declared.closing.UnitIds.{UnitIds}
use Rattle.fmp_headers.specs.declared.guids.TheConstants.{FMP_CAPSULE_GUID}
use Rattle.reference_machine.specs.Spent.{Element}
use Rattle.reference_machine.specs.Spent.Standing.{Open}
use Rattle.reference_machine.specs.declared.unit.Kind.TheVariants.{Try}
use Rattle.stored_vars.specs.Holds.{claim_of, device_of, open_device_of}
use Rattle.stored_vars.specs.Records.{IsClaim, IsState}
use Rattle.stored_vars.specs.declared.claim.Claim.{Claim}
use Rattle.var_log.specs.Changes.{Variables}

-- the claim that is open: that of the first device with one
abbrev pub open_claim_of : BoardValue → Variables → Option Claim
open_claim_of board variables = option_and_then (claim_of variables) (open_device_of board variables)

-- the state of a device, and the claim on it, have their widths
pub record IsWide (board : BoardValue) (variables : Variables) (d : ℕ) : Type 0 where
  pub state : IsState (device_of board variables d)
  pub claim : IfSome (claim_of variables d) (IsClaim d)

-- the type of a device, zeros where there is none
abbrev pub type_of : BoardValue → ℕ → Guid
type_of board d =
    unwrap_or (option_map (λ x. x.type_id) (slice_get board.devices d))
    (record { bytes = replicate 16 0 })

-- the image index of a device, 0 where there is none
abbrev pub index_of : BoardValue → ℕ → ℕ
index_of board d = unwrap_or (option_map (λ x. x.index) (slice_get board.devices d)) 0

-- the GUIDs and the index of an item that is tried on a device: it came in an FMP capsule, and has
-- the type and the index of the device
abbrev pub ids_on : BoardValue → ℕ → UnitIds
ids_on board d = record {
  capsule = FMP_CAPSULE_GUID;
  type_id = type_of board d;
  index = index_of board d;
}

-- the open element that a claim tells of; what no settlement tells of it is left out
abbrev pub element_claimed : BoardValue → Claim → Element
element_claimed board c = record {
  kind = Try;
  key = c.key;
  capsule = FMP_CAPSULE_GUID;
  head = record {
    version = 0;
    type_id = type_of board c.key.device;
    index = index_of board c.key.device;
    instance = 0;
    support = 0;
  };
  version = c.version;
  floor = c.floor;
  dependency = [];
  payload = [];
  standing = Open;
}
