-- Variables of one number or of two (own format, but for OsIndications, UEFI 2.10, 8.5.4): the last
-- serial of a delivery by memory and OsIndications in 8 bytes, and a staged delivery as its serial
-- and the address of its list in 8 bytes each.
use Rattle.std.specs.Prelude.{ℕ, ◌^◌, ◌<◌, ◌==◌, List, ◌++◌, length, Option, None, Some}
use Rattle.std.specs.Prelude.{if◌then◌else◌}
use Rattle.cu_base.specs.Fields.{number_at, bytes_of}
use Rattle.reference_machine.specs.declared.snapshot.StagedPair.{StagedPair}

-- the spelling of a number
abbrev pub number_bytes : ℕ → List ℕ
number_bytes n = bytes_of 8 n

-- the number that these bytes spell; any others are none
abbrev pub number_in : List ℕ → Option ℕ
number_in bytes = if length bytes == 8 then Some (number_at bytes 0 8) else None

-- the spelling of a staged delivery
abbrev pub pair_bytes : StagedPair → List ℕ
pair_bytes p = bytes_of 8 p.serial ++ bytes_of 8 p.address

-- the staged delivery by its places
abbrev pub pair_at_front : List ℕ → StagedPair
pair_at_front bytes =
    record { serial = number_at bytes 0 8; address = number_at bytes 8 8 }

-- the staged delivery that these bytes spell; any others are none
abbrev pub pair_in : List ℕ → Option StagedPair
pair_in bytes = if length bytes == 16 then Some (pair_at_front bytes) else None

-- serial and address have their width
pub record IsPair (p : StagedPair) : Type 0 where
  pub serial : p.serial < 2 ^ 64
  pub address : p.address < 2 ^ 64
