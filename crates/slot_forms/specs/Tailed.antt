-- A slot with one bank whose region has 4,096 bytes more than the slot takes (own format): they
-- stand at its end, and no payload reaches into them.
use Rattle.std.specs.Prelude.{ℕ, ◌+◌, ◌-◌, ◌≤◌, List, length, nat_le, Option, None, Some}
use Rattle.std.specs.Prelude.{if◌then◌else◌}
use Rattle.bench_model.specs.Regions.{Region}
use Rattle.bench_model.specs.declared.outside_limits.TheConstants.{SLOT_LEAD}
use Rattle.fmp_slot.specs.declared.slot.Slot.{Slot}
use Rattle.fmp_slot.specs.declared.slot.Slot.TheVariants.{Sealed, Unsealed}
use Rattle.fmp_slot.specs.declared.writer.SlotWriter.{SlotWriter}
use Rattle.fmp_slot.specs.Held.{HeldSlot}
use Rattle.fmp_slot.specs.Layout.{slot_of}
use Rattle.fmp_slot.specs.Writers.{writing_of, is_underway}
use Rattle.slot_forms.specs.declared.tailed.TheConstants.{TAIL}

-- the bytes of the region of a device, by its capacity
abbrev pub tailed_bytes : ℕ → ℕ
tailed_bytes capacity = SLOT_LEAD + TAIL + capacity

-- the room for a payload in a region of so many bytes
abbrev pub room_of : ℕ → ℕ
room_of size = size - (SLOT_LEAD + TAIL)

-- a look, but unsealed where the payload is longer than the room
abbrev pub look_within : ℕ → Slot → Slot
look_within room Unsealed = Unsealed
look_within room (Sealed h) = if nat_le h.length room then Sealed h else Unsealed

-- a slot, but unsealed where the payload is longer than the room
abbrev pub slot_within : ℕ → Option HeldSlot → Option HeldSlot
slot_within room None = None
slot_within room (Some s) = if nat_le s.head.length room then Some s else None

-- what the bytes of a region hold
abbrev pub tailed_slot : List ℕ → Option HeldSlot
tailed_slot bytes = slot_within (room_of (length bytes)) (slot_of bytes)

-- the writer may go on, and its payload has its room before the tail
pub record IsBeforeTail (w : SlotWriter) (region : Region) : Type 0 where
  pub underway : is_underway w region
  pub room : SLOT_LEAD + TAIL + (writing_of w).head.length ≤ length region.bytes
