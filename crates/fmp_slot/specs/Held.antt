-- What a slot holds, and what the images of its region hold (own format). A slot is unsealed, or
-- sealed with a head, a dependency section and a payload.
use Rattle.std.specs.Prelude.{◌≡◌, ◌⊎◌, ℕ, ◌+◌, ◌≤◌, true, List, length, Option, None, Some}
use Rattle.bench_model.specs.Bench.{BenchValue, HasDevice, region_at, region_of}
use Rattle.bench_model.specs.Regions.{Region, IsImage, IsStable}
use Rattle.fmp_slot.specs.declared.limits.TheConstants.{MAX_KEPT_SECTION}
use Rattle.fmp_slot.specs.declared.slot.Slot.{Slot}
use Rattle.fmp_slot.specs.declared.slot.Slot.TheVariants.{Sealed, Unsealed}
use Rattle.fmp_slot.specs.declared.slot.SlotHead.{SlotHead}

-- what a sealed slot holds; its head has the ticket, the version, the floor and both lengths
pub record HeldSlot : Type 0 where
  pub head : SlotHead
  pub dep : List ℕ  -- the dependency section, empty where there is none
  pub payload : List ℕ

-- a sealed slot of these parts
abbrev pub held : SlotHead → List ℕ → List ℕ → HeldSlot
held head dep payload = record { head = head; dep = dep; payload = payload }

-- what a look tells of a slot: its head, or that it is unsealed
abbrev pub shown : Option HeldSlot → Slot
shown None = Unsealed
shown (Some s) = Sealed s.head

-- the region of a device
abbrev pub region_in : ℕ → BenchValue → Region
region_in device b = region_at b.contents (region_of device)

-- the device is there, and its region has more bytes than a slot without payload takes
pub record HasSlot (least device : ℕ) (b : BenchValue) : Type 0 where
  pub there : HasDevice device b
  pub room : least + 1 ≤ length (region_in device b).bytes

-- the device was begun and not ended
abbrev pub IsBegun : ℕ → BenchValue → Type 0
IsBegun device b = b.contents.rest.open_device ≡ Some device

-- no place of the region of the device is dirty, where it is told
abbrev pub IsToldStable : ℕ → BenchValue → Type 0
IsToldStable device b = (region_in device b).told ≡ true → IsStable (region_in device b)

-- the lengths that a slot tells are within the limits of its region, whose bytes are `size`
abbrev pub IsWithinLimits : (ℕ → ℕ) → ℕ → Slot → Type 0
IsWithinLimits size_of size Unsealed = Unit {0}
IsWithinLimits size_of size (Sealed h) =
    (h.dep_length ≤ MAX_KEPT_SECTION) × ((c : ℕ) → size ≡ size_of c → h.length ≤ c)

-- some image of the region holds just this
pub record IsHeld (slot_of : List ℕ → Option HeldSlot) (region : Region)
    (slot : Option HeldSlot) : Type 0 where
  pub image : List ℕ
  pub is : IsImage region image
  pub same : slot_of image ≡ slot

-- the image is unsealed, or holds what an image of the region before held
abbrev pub IsKept : (List ℕ → Option HeldSlot) → Region → List ℕ → Type 0
IsKept slot_of old image = (slot_of image ≡ None) ⊎ IsHeld slot_of old (slot_of image)

-- each image that there is now is unsealed, or holds what an image before held
pub record KeepsSlots (slot_of : List ℕ → Option HeldSlot) (old new : Region) : Type 0 where
  pub each : (image : List ℕ) → IsImage new image → IsKept slot_of old image

-- each image that there is now is unsealed, holds what an image before held, or holds just this
pub record KeepsOrSeals (slot_of : List ℕ → Option HeldSlot) (slot : HeldSlot)
    (old new : Region) : Type 0 where
  pub each : (image : List ℕ) → IsImage new image
      → IsKept slot_of old image ⊎ (slot_of image ≡ Some slot)

-- nothing is dirty, and each image holds just this
pub record IsDurable (slot_of : List ℕ → Option HeldSlot) (slot : HeldSlot)
    (region : Region) : Type 0 where
  pub stable : IsStable region
  pub each : (image : List ℕ) → IsImage region image → slot_of image ≡ Some slot

-- these bytes are the dependency section of the slot
abbrev pub IsHeldDep : List ℕ → Option HeldSlot → Type 0
IsHeldDep dep None = ⊥
IsHeldDep dep (Some s) = dep ≡ s.dep
