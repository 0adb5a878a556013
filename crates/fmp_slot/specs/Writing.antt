-- A slot that is being written, piece by piece.
use Rattle.std.specs.Prelude.{◌≡◌, ◌≢◌, ℕ, ◌+◌, ◌-◌, ◌/◌, ◌<◌, ◌≤◌, min, List, length, get_or, true}
use Rattle.std.specs.Prelude.{false}
use Rattle.cu_base.specs.Fields.{field}
use Rattle.bench_model.specs.declared.outside_limits.TheConstants.{SLOT_LEAD}
use Rattle.bench_model.specs.Regions.{Region, AgreesOutside, IsStable}
use Rattle.fmp_slot.specs.declared.limits.TheConstants.{MAX_KEPT_SECTION, PIECE}
use Rattle.fmp_slot.specs.declared.slot.SlotHead.{SlotHead}
use Rattle.fmp_slot.specs.Held.{HeldSlot}
use Rattle.fmp_slot.specs.Layout.{IsSlotHead, front_bytes, seal}

-- what a writer has: its device, the head and section of its slot, and how many bytes it took
pub record Writing : Type 0 where
  pub device : ℕ
  pub head : SlotHead
  pub dep : List ℕ
  pub taken : ℕ

-- a writer that took nothing yet
abbrev pub started : ℕ → SlotHead → List ℕ → Writing
started device head dep = record { device = device; head = head; dep = dep; taken = 0 }

-- the writer once it took so many bytes more
abbrev pub more_taken : Writing → ℕ → Writing
more_taken w n = record w { taken = w.taken + n }

-- where a writer writes in its region: the head and the section, and the payload
pub record Places : Type 0 where
  pub front_at : ℕ
  pub front : List ℕ
  pub payload_at : ℕ

-- the next piece has 65,536 bytes, or is the last and has all that are left
pub record IsNextPiece (w : Writing) (n : ℕ) : Type 0 where
  pub some : 0 < n
  pub cut : n ≡ min PIECE (w.head.length - w.taken)

-- how many pieces these bytes are
abbrev pub pieces_of : ℕ → ℕ
pieces_of n = (n + (PIECE - 1)) / PIECE

-- a slot with one bank may be written on: byte 0 does not read as the seal and is not dirty, and
-- the payload has its room
pub record IsUnderway (payload : ℕ) (region : Region) : Type 0 where
  pub unsealed : region.told ≡ true → get_or region.bytes 0 0 ≢ seal
  pub clean : region.told ≡ true → region.dirty 0 ≡ false
  pub room : SLOT_LEAD + payload ≤ length region.bytes

-- the payload so far of a slot with one bank, as the bytes of its region hold it
abbrev pub payload_so_far : ℕ → List ℕ → List ℕ
payload_so_far taken bytes = field bytes SLOT_LEAD taken

-- all of a slot with one bank stands but its seal
pub record IsReceived (s : HeldSlot) (bytes : List ℕ) : Type 0 where
  pub unsealed : get_or bytes 0 0 ≢ seal
  pub front : field bytes 1 (length (front_bytes s.head s.dep)) ≡ front_bytes s.head s.dep
  pub payload : field bytes SLOT_LEAD (length s.payload) ≡ s.payload
  pub room : SLOT_LEAD + length s.payload ≤ length bytes
  pub payload_length : s.head.length ≡ length s.payload
  pub dep_length : s.head.dep_length ≡ length s.dep
  pub section : length s.dep ≤ MAX_KEPT_SECTION
  pub widths : IsSlotHead s.head

-- the front of a slot stands from place 1 on and lasts, no other byte changed, and it is unsealed
pub record HasFront (front : List ℕ) (old new : Region) : Type 0 where
  pub stable : IsStable new
  pub unsealed : new.told ≡ true → get_or new.bytes 0 0 ≢ seal
  pub stands : new.told ≡ true → field new.bytes 1 (length front) ≡ front
  pub others : new.told ≡ true → AgreesOutside 1 (length front) old.bytes new.bytes
