-- When the calls on a slot refuse. Flash comes only where a count rose, of which another clause
-- speaks.
use Rattle.std.specs.Prelude.{◌≡◌, ◌≢◌, ◌⊎◌, ℕ, ◌+◌, ◌-◌, ◌<◌, ◌≤◌, Bool, false, List, length, get_or}
use Rattle.std.specs.Prelude.{Result, Ok, Err}
use Rattle.bench_model.specs.declared.outside_limits.TheConstants.{SLOT_LEAD}
use Rattle.fmp_slot.specs.declared.faults.SlotFault.{SlotFault}
use Rattle.fmp_slot.specs.declared.faults.SlotFault.TheVariants.{Flash, TooLarge, Apart}
use Rattle.fmp_slot.specs.Held.{HeldSlot}
use Rattle.fmp_slot.specs.Layout.{front_bytes}
use Rattle.fmp_slot.specs.Writing.{Places}

-- the call answers no other refusal than Flash
abbrev pub FailsAlone : {T : Type 0} → Result T SlotFault → Type 0
FailsAlone (Ok x) = Unit {0}
FailsAlone (Err Flash) = Unit {0}
FailsAlone (Err TooLarge) = ⊥
FailsAlone (Err (Apart at wrote read)) = ⊥

-- TooLarge comes exactly where the payload is longer than the capacity
abbrev pub StartsWithin : {T : Type 0} → ℕ → ℕ → Result T SlotFault → Type 0
StartsWithin capacity payload (Ok x) = payload ≤ capacity
StartsWithin capacity payload (Err Flash) = payload ≤ capacity
StartsWithin capacity payload (Err TooLarge) = capacity < payload
StartsWithin capacity payload (Err (Apart at wrote read)) = ⊥

-- this byte of these bytes, which stand at this place, was written at that place of the region
pub record IsByteAt (from : ℕ) (bytes : List ℕ) (at wrote : ℕ) : Type 0 where
  pub low : from ≤ at
  pub high : at < from + length bytes
  pub is : wrote ≡ get_or bytes (at - from) 0

-- a byte was read that differs from the byte that was written there; the flash does not tell its
-- bytes
pub record IsApart (told : Bool) (from : ℕ) (bytes : List ℕ) (at wrote read : ℕ) : Type 0 where
  pub untold : told ≡ false
  pub written : IsByteAt from bytes at wrote
  pub other : wrote ≢ read

-- Apart comes only with a byte of these, written from this place on, that was read as another
abbrev pub ReadsBack : {T : Type 0} → Bool → ℕ → List ℕ → Result T SlotFault → Type 0
ReadsBack told from bytes (Ok x) = Unit {0}
ReadsBack told from bytes (Err Flash) = Unit {0}
ReadsBack told from bytes (Err TooLarge) = ⊥
ReadsBack told from bytes (Err (Apart at wrote read)) = IsApart told from bytes at wrote read

-- Apart comes only with a byte of the front or of the payload, where a writer with these places
-- writes it, that was read as another
abbrev pub FinishesAt : {T : Type 0} → Bool → Places → List ℕ → Result T SlotFault → Type 0
FinishesAt told p payload (Ok x) = Unit {0}
FinishesAt told p payload (Err Flash) = Unit {0}
FinishesAt told p payload (Err TooLarge) = ⊥
FinishesAt told p payload (Err (Apart at wrote read)) =
    IsApart told p.front_at p.front at wrote read
    ⊎ IsApart told p.payload_at payload at wrote read

-- TooLarge comes exactly where the payload is longer than the capacity, and Apart only with a byte
-- of the front or of the payload that was read as another
abbrev pub SetsWithin : {T : Type 0} → ℕ → Bool → HeldSlot → Result T SlotFault → Type 0
SetsWithin capacity told s (Ok x) = length s.payload ≤ capacity
SetsWithin capacity told s (Err Flash) = length s.payload ≤ capacity
SetsWithin capacity told s (Err TooLarge) = capacity < length s.payload
SetsWithin capacity told s (Err (Apart at wrote read)) =
    (length s.payload ≤ capacity)
    × (IsApart told 1 (front_bytes s.head s.dep) at wrote read
    ⊎ IsApart told SLOT_LEAD s.payload at wrote read)
