-- A region in memory: the bytes as read, those at its last sync, and the places that were written
-- since.
use Rattle.std.specs.Prelude.{◌≡◌, ℕ, ◌+◌, ◌%◌, ◌<◌, ◌==◌, Bool, true, false, List, []}
use Rattle.std.specs.Prelude.{◌++◌, length, take, drop, replicate, get_or, Option, Some, None}
use Rattle.std.specs.Prelude.{if◌then◌else◌}
use Rattle.bench_model.specs.declared.choice.Choice.{Choice}
use Rattle.bench_model.specs.declared.choice.Choice.TheVariants.{New, Old, Mix, Fill}
use Rattle.bench_model.specs.Regions.{Region}

-- the bytes as read, the bytes at the last sync, and for each place whether it is dirty
pub record RegionValue : Type 0 where
  pub bytes : List ℕ
  pub synced : List ℕ
  pub marks : List Bool

-- a region that is not there
abbrev pub no_region : RegionValue
no_region = record { bytes = []; synced = []; marks = [] }

-- what a region keeps of its blocks, and how many places there is room for
pub record RoomValue : Type 0 where
  pub kept : RegionValue
  pub most : ℕ

-- all places are there in all three
pub record IsRegion (r : RegionValue) : Type 0 where
  pub synced : length r.synced ≡ length r.bytes
  pub marks : length r.marks ≡ length r.bytes

-- items put into a list from a place on
abbrev pub overlaid : {A : Type 0} → ℕ → List A → List A → List A
overlaid at items old = take at old ++ items ++ drop (at + length items) old

-- the region after a write: the bytes stand from the place on, which makes their places dirty
abbrev pub written : ℕ → List ℕ → RegionValue → RegionValue
written at bytes r = record r {
  bytes = overlaid at bytes r.bytes;
  marks = overlaid at (replicate (length bytes) true) r.marks;
}

-- with so many blank places more, none of them dirty
abbrev pub lengthened : ℕ → RegionValue → RegionValue
lengthened n r = record {
  bytes = r.bytes ++ replicate n 255;
  synced = r.synced ++ replicate n 255;
  marks = r.marks ++ replicate n false;
}

-- a region whose bytes are stable
abbrev pub stable_region : List ℕ → RegionValue
stable_region bytes =
    record { bytes = bytes; synced = bytes; marks = replicate (length bytes) false }

-- what a power cut makes of a dirty byte, by its place: `Mix` keeps what was synced at even places
abbrev pub byte_after : Choice → ℕ → ℕ → ℕ → ℕ
byte_after New place synced read = read
byte_after Old place synced read = synced
byte_after Mix place synced read = if place % 2 == 0 then synced else read
byte_after (Fill byte) place synced read = byte

-- these bytes are what a power cut leaves of the region: each dirty one by the choice, all others
-- as they are read
pub record IsCut (choice : Choice) (r : RegionValue) (left : List ℕ) : Type 0 where
  pub long : length left ≡ length r.bytes
  pub each : (k : ℕ) → k < length r.bytes → get_or left k 0
      ≡ (if get_or r.marks k false then byte_after choice k (get_or r.synced k 0)
      (get_or r.bytes k 0) else get_or r.bytes k 0)

-- the region as a flash tells it
abbrev pub told_region : RegionValue → Region
told_region r = record { told = true; bytes = r.bytes; dirty = λ k. get_or r.marks k false }

-- what a cold cycle leaves of the bytes: what the cut leaves, or without one the bytes as read
abbrev pub IsLeft : Option Choice → RegionValue → List ℕ → Type 0
IsLeft None r left = left ≡ r.bytes
IsLeft (Some choice) r left = IsCut choice r left

-- a cold cycle leaves a region with stable bytes
pub record IsSettled (cut : Option Choice) (old new : RegionValue) : Type 0 where
  pub stable : new ≡ stable_region new.bytes
  pub left : IsLeft cut old new.bytes
