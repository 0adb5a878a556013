-- The record of a device, 96 bytes (own format): version, floor in force, version and status of the
-- last attempt in 4 bytes each, and the claim that is open. Without a claim zeros follow. A claim
-- has the number 1, route, capsule and item in 1 byte each, the unit in 4, the serial in 8, version,
-- floor and length in 4 each, the length of the file's name in 1, 3 zeros, the name, and zeros.
use Rattle.std.specs.Prelude.{◌≡◌, ℕ, ◌-◌, ◌^◌, ◌<◌, ◌==◌, Bool, true, ◌&&◌, ◌||◌, List, ◌∷◌, ◌++◌}
use Rattle.std.specs.Prelude.{length, get_or, replicate, Option, None, Some, IfSome, if◌then◌else◌}
use Rattle.std.specs.Str.{bytes_eq}
use Rattle.cu_base.specs.Fields.{field, number_at, bytes_of}
use Rattle.cu_base.specs.declared.device_state.DevState.{DevState}
use Rattle.bench_model.specs.Files.{is_file_name}
use Rattle.stored_vars.specs.declared.claim.Claim.{Claim}
use Rattle.stored_vars.specs.declared.claim.DevRec.{DevRec}
use Rattle.stored_vars.specs.declared.record.ClaimNumbers.{ClaimNumbers}

-- the name in the key of a claim is empty or that of a file
abbrev pub is_key_name : List ℕ → Bool
is_key_name name = (length name == 0) || is_file_name name

-- the spelling of a state
abbrev pub state_bytes : DevState → List ℕ
state_bytes s =
    bytes_of 4 s.version ++ bytes_of 4 s.floor ++ bytes_of 4 s.last_version
    ++ bytes_of 4 s.last_status

-- the flag of a claim and its numbers
abbrev pub claim_front : ClaimNumbers → List ℕ
claim_front n =
    1 ∷ n.ticket.route ∷ n.ticket.capsule ∷ n.ticket.item ∷ bytes_of 4 n.unit
    ++ bytes_of 8 n.ticket.serial ++ bytes_of 4 n.version ++ bytes_of 4 n.floor
    ++ bytes_of 4 n.size

-- the name of a claim with its length and the zeros around it
abbrev pub name_bytes : List ℕ → List ℕ
name_bytes name =
    length name ∷ 0 ∷ 0 ∷ 0 ∷ name ++ replicate (48 - length name) 0

-- the spelling of a claim of these numbers and this name
abbrev pub claim_spelled : ClaimNumbers → List ℕ → List ℕ
claim_spelled n name = claim_front n ++ name_bytes name

-- the numbers of a claim
abbrev pub numbers_of : Claim → ClaimNumbers
numbers_of c = record {
  ticket = c.key.ticket;
  unit = c.key.unit;
  version = c.version;
  floor = c.floor;
  size = c.length;
}

-- the spelling of a claim, or of none
abbrev pub claim_bytes : Option Claim → List ℕ
claim_bytes None = replicate 80 0
claim_bytes (Some c) = claim_spelled (numbers_of c) c.key.name

-- the spelling of a record
abbrev pub record_bytes : DevRec → List ℕ
record_bytes r = state_bytes r.state ++ claim_bytes r.claim

-- the state by its places
abbrev pub state_at_front : List ℕ → DevState
state_at_front bytes = record {
  version = number_at bytes 0 4;
  floor = number_at bytes 4 4;
  last_version = number_at bytes 8 4;
  last_status = number_at bytes 12 4;
}

-- the name of a claim by its places
abbrev pub name_at : List ℕ → List ℕ
name_at bytes = field bytes 48 (get_or bytes 44 0)

-- the numbers of a claim by their places
abbrev pub numbers_at : List ℕ → ClaimNumbers
numbers_at bytes = record {
  ticket = record {
    route = get_or bytes 17 0;
    capsule = get_or bytes 18 0;
    item = get_or bytes 19 0;
    serial = number_at bytes 24 8;
  };
  unit = number_at bytes 20 4;
  version = number_at bytes 32 4;
  floor = number_at bytes 36 4;
  size = number_at bytes 40 4;
}

-- the claim of these numbers and this name on a device
abbrev pub claim_with : ℕ → ClaimNumbers → List ℕ → Claim
claim_with device n name = record {
  key = record { ticket = n.ticket; unit = n.unit; device = device; name = name };
  version = n.version;
  floor = n.floor;
  length = n.size;
}

-- the claim by its places; the device is that whose record it is
abbrev pub claim_at : ℕ → List ℕ → Claim
claim_at device bytes = claim_with device (numbers_at bytes) (name_at bytes)

-- the byte that tells an open claim
abbrev pub is_flagged : List ℕ → Bool
is_flagged bytes = get_or bytes 16 0 == 1

-- the record by its places
abbrev pub record_at : ℕ → List ℕ → DevRec
record_at device bytes = record {
  state = state_at_front bytes;
  claim = if is_flagged bytes then Some (claim_at device bytes) else None;
}

-- the claim, where there is one, is of a name that may stand in it
abbrev pub is_claim_named : Option Claim → Bool
is_claim_named None = true
is_claim_named (Some c) = is_key_name c.key.name

-- these bytes are the spelling of a record, of whatever device
abbrev pub is_record : List ℕ → Bool
is_record bytes =
    is_claim_named (record_at 0 bytes).claim && bytes_eq (record_bytes (record_at 0 bytes)) bytes

-- the record of a device that these bytes spell; any others are none
abbrev pub record_in : ℕ → List ℕ → Option DevRec
record_in device bytes = if is_record bytes then Some (record_at device bytes) else None

-- the state in the record that these bytes spell
abbrev pub state_in : List ℕ → Option DevState
state_in bytes = if is_record bytes then Some (state_at_front bytes) else None

-- these bytes spell a record with an open claim
abbrev pub has_claim : List ℕ → Bool
has_claim bytes = is_record bytes && is_flagged bytes

-- each field of a claim on a device has its width, and its name may stand in it
pub record IsClaim (number : ℕ) (c : Claim) : Type 0 where
  pub route : c.key.ticket.route < 2 ^ 8
  pub capsule : c.key.ticket.capsule < 2 ^ 8
  pub item : c.key.ticket.item < 2 ^ 8
  pub serial : c.key.ticket.serial < 2 ^ 64
  pub unit : c.key.unit < 2 ^ 32
  pub device : c.key.device ≡ number
  pub name : is_key_name c.key.name ≡ true
  pub version : c.version < 2 ^ 32
  pub floor : c.floor < 2 ^ 32
  pub size : c.length < 2 ^ 32

-- each field of a state has its width
pub record IsState (s : DevState) : Type 0 where
  pub version : s.version < 2 ^ 32
  pub floor : s.floor < 2 ^ 32
  pub last_version : s.last_version < 2 ^ 32
  pub last_status : s.last_status < 2 ^ 32

-- each field of the record of a device has its width
pub record IsRecord (number : ℕ) (r : DevRec) : Type 0 where
  pub state : IsState r.state
  pub claim : IfSome r.claim (IsClaim number)
