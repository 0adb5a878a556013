-- When an image that is set over any form is refused (own format).
use Rattle.std.specs.Prelude.{◌≡◌, ◌⊎◌, ℕ, ◌<◌, ◌≤◌, Bool, List, length, Result, Ok, Err}
use Rattle.fmp_slot.specs.declared.faults.SlotFault.{SlotFault}
use Rattle.fmp_slot.specs.declared.faults.SlotFault.TheVariants.{Flash, TooLarge, Apart}
use Rattle.fmp_slot.specs.declared.slot.SlotHead.{SlotHead}
use Rattle.fmp_slot.specs.Held.{HeldSlot}
use Rattle.fmp_slot.specs.Refusals.{IsApart}
use Rattle.fmp_slot.specs.Writing.{Places}

-- a byte of the front or of the payload was read as another, at a place where the form may write it
-- in a region of so many bytes
pub record IsApartOver (may_write : ℕ → SlotHead → List ℕ → Places → Type 0) (told : Bool)
    (size : ℕ) (s : HeldSlot) (at wrote read : ℕ) : Type 0 where
  pub places : Places
  pub may : may_write size s.head s.dep places
  pub apart : IsApart told places.front_at places.front at wrote read
      ⊎ IsApart told places.payload_at s.payload at wrote read

-- TooLarge comes exactly where the payload is longer than the capacity, and Apart only with a byte
-- that was read as another
abbrev pub SetsOver : {T : Type 0} → (ℕ → SlotHead → List ℕ → Places → Type 0) → Bool → ℕ → ℕ
    → HeldSlot → Result T SlotFault → Type 0
SetsOver may_write told size capacity s (Ok x) = length s.payload ≤ capacity
SetsOver may_write told size capacity s (Err Flash) = length s.payload ≤ capacity
SetsOver may_write told size capacity s (Err TooLarge) = capacity < length s.payload
SetsOver may_write told size capacity s (Err (Apart at wrote read)) =
    (length s.payload ≤ capacity) × IsApartOver may_write told size s at wrote read
