-- The bytes of a slot with one bank (own format). The head is its first 64 bytes: the seal, u8, at 0
-- (0x5A is sealed), the name 'CUS' at 1, the format, u32, at 4, route, capsule and item, u8 each, at
-- 8 to 10, zeros at 11 to 15, the serial, u64, at 16, version, floor, payload length and section
-- length, u32 each, at 24 to 39, and zeros to 63. The dependency section stands from 64 on, the
-- payload from 8,192 on. A slot of format 1 has zeros in place of the section length and no section.
use Rattle.std.specs.Prelude.{ℕ, ◌+◌, ◌-◌, ◌^◌, ◌<◌, ◌==◌, Bool, ◌&&◌, ◌||◌, List, [], ◌∷◌, ◌++◌, length}
use Rattle.std.specs.Prelude.{get_or, replicate, nat_le, Option, None, Some, if◌then◌else◌}
use Rattle.std.specs.Str.{bytes_eq}
use Rattle.cu_base.specs.Fields.{field, number_at, bytes_of}
use Rattle.bench_model.specs.declared.outside_limits.TheConstants.{SLOT_LEAD}
use Rattle.fmp_slot.specs.declared.limits.TheConstants.{MAX_KEPT_SECTION}
use Rattle.fmp_slot.specs.declared.slot.Slot.{Slot}
use Rattle.fmp_slot.specs.declared.slot.Slot.TheVariants.{Sealed, Unsealed}
use Rattle.fmp_slot.specs.declared.slot.SlotHead.{SlotHead}
use Rattle.fmp_slot.specs.Held.{HeldSlot, held}

-- the byte at 0 of a sealed slot
abbrev pub seal : ℕ
seal = 0x5A

-- the name 'CUS' of the format
abbrev pub slot_name : List ℕ
slot_name = 67 ∷ 85 ∷ 83 ∷ []

-- the format, the number at 4
abbrev pub format_of : List ℕ → ℕ
format_of bytes = number_at bytes 4 4

-- the length of the dependency section, the number at 36; format 1 has none
abbrev pub dep_length_of : List ℕ → ℕ
dep_length_of bytes = if format_of bytes == 1 then 0 else number_at bytes 36 4

-- seal and name stand, the format is 1 or 2, the payload fits the room behind the lead, and the
-- section its limit
abbrev pub is_sealed : ℕ → List ℕ → Bool
is_sealed room bytes =
    (get_or bytes 0 0 == seal) && bytes_eq (field bytes 1 3) slot_name
    && (format_of bytes == 1 || format_of bytes == 2)
    && nat_le (number_at bytes 32 4) room && nat_le (dep_length_of bytes) MAX_KEPT_SECTION

-- the head, by its places
abbrev pub head_of : List ℕ → SlotHead
head_of bytes = record {
  ticket = record {
    route = get_or bytes 8 0;
    capsule = get_or bytes 9 0;
    item = get_or bytes 10 0;
    serial = number_at bytes 16 8;
  };
  version = number_at bytes 24 4;
  floor = number_at bytes 28 4;
  length = number_at bytes 32 4;
  dep_length = dep_length_of bytes;
}

-- what these bytes tell of a slot with so much room for its payload
abbrev pub slot_shown : ℕ → List ℕ → Slot
slot_shown room bytes = if is_sealed room bytes then Sealed (head_of bytes) else Unsealed

-- the bytes of the region of a device, by its capacity
abbrev pub region_bytes : ℕ → ℕ
region_bytes capacity = SLOT_LEAD + capacity

-- what the bytes of a region hold
abbrev pub slot_of : List ℕ → Option HeldSlot
slot_of bytes =
    if is_sealed (length bytes - SLOT_LEAD) bytes
    then Some (held (head_of bytes) (field bytes 64 (dep_length_of bytes))
    (field bytes SLOT_LEAD (number_at bytes 32 4)))
    else None

-- what is written in front of a payload from place 1 on: the head in format 2 without its seal, and
-- the section
abbrev pub front_bytes : SlotHead → List ℕ → List ℕ
front_bytes h dep =
    slot_name ++ bytes_of 4 2 ++ h.ticket.route ∷ h.ticket.capsule ∷ h.ticket.item ∷ []
    ++ replicate 5 0 ++ bytes_of 8 h.ticket.serial ++ bytes_of 4 h.version ++ bytes_of 4 h.floor
    ++ bytes_of 4 h.length ++ bytes_of 4 h.dep_length ++ replicate 24 0 ++ dep

-- each field of a head has its width
pub record IsSlotHead (h : SlotHead) : Type 0 where
  pub route : h.ticket.route < 2 ^ 8
  pub capsule : h.ticket.capsule < 2 ^ 8
  pub item : h.ticket.item < 2 ^ 8
  pub serial : h.ticket.serial < 2 ^ 64
  pub version : h.version < 2 ^ 32
  pub floor : h.floor < 2 ^ 32
  pub payload : h.length < 2 ^ 32
  pub section : h.dep_length < 2 ^ 32
