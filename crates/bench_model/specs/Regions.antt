-- A region of a flash: what a read gives, and what a power cut may leave. No list of one region
-- speaks of another.
use Rattle.std.specs.Prelude.{◌≡◌, ◌⊎◌, ℕ, ◌+◌, ◌<◌, ◌≤◌, List, length, get_or, Bool, true, false}
use Rattle.cu_base.specs.Fields.{field}

-- a region: whether its bytes are told, the bytes as read (where they are not told, their number
-- alone says something), and the dirty places, whose bytes a power cut may change
pub record Region : Type 0 where
  pub told : Bool
  pub bytes : List ℕ
  pub dirty : ℕ → Bool

-- a place is outside the range of so many places from `at` on
abbrev pub IsOutside : ℕ → ℕ → ℕ → Type 0
IsOutside at n k = (k < at) ⊎ (at + n ≤ k)

-- new has the length of old, and its bytes outside the range
pub record AgreesOutside (at n : ℕ) (old new : List ℕ) : Type 0 where
  pub long : length new ≡ length old
  pub same : (k : ℕ) → IsOutside at n k → get_or new k 0 ≡ get_or old k 0

-- an image: what a power cut may leave of a region, any list of its length that agrees with the
-- bytes as read outside the dirty places; the bytes as read are an image; a region that is not told
-- has none
pub record IsImage (region : Region) (image : List ℕ) : Type 0 where
  pub told : region.told ≡ true
  pub long : length image ≡ length region.bytes
  pub same : (k : ℕ) → region.dirty k ≡ false → get_or image k 0 ≡ get_or region.bytes k 0

-- no place is dirty, so what a read gives is the one image
pub record IsStable (region : Region) : Type 0 where
  pub clean : (k : ℕ) → region.dirty k ≡ false

-- a write changes bytes in its range alone, and no place outside the range becomes dirty
pub record Writes (at n : ℕ) (old new : Region) : Type 0 where
  pub told : new.told ≡ old.told
  pub long : length new.bytes ≡ length old.bytes
  pub rest : old.told ≡ true → AgreesOutside at n old.bytes new.bytes
  pub dirt : (k : ℕ) → IsOutside at n k → old.dirty k ≡ false → new.dirty k ≡ false

-- the range reads as these bytes
abbrev pub ReadsAs : ℕ → List ℕ → Region → Type 0
ReadsAs at bytes region = region.told ≡ true → field region.bytes at (length bytes) ≡ bytes

-- a sync changes no byte and makes no place dirty
pub record Syncs (old new : Region) : Type 0 where
  pub told : new.told ≡ old.told
  pub bytes : new.bytes ≡ old.bytes
  pub dirt : (k : ℕ) → old.dirty k ≡ false → new.dirty k ≡ false

-- each image that there is now was an image before
pub record KeepsImages (old new : Region) : Type 0 where
  pub told : new.told ≡ old.told
  pub long : length new.bytes ≡ length old.bytes
  pub images : (image : List ℕ) → IsImage new image → IsImage old image
