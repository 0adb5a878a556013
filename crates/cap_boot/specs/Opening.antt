-- What a boot does before its work: the store is opened, and the devices are synced.
use Rattle.std.specs.Prelude.{◌≡◌, ℕ, ◌≤◌, ◌<◌}
use Rattle.bench_model.specs.Bench.{BenchValue, region_at, region_of}
use Rattle.bench_model.specs.Regions.{IsStable, KeepsImages, Syncs}

-- beside the store nothing changes: each image of a device was an image before
pub record KeepsBeside (old new : BenchValue) : Type 0 where
  pub told : new.contents.told ≡ old.contents.told
  pub devices : (k : ℕ) → 2 ≤ k
      → KeepsImages (region_at old.contents k) (region_at new.contents k)
  pub rest : new.contents.rest ≡ old.contents.rest

-- syncs alone were made, and none of a bank: no byte changed, and no place became dirty
pub record SyncsDevices (old new : BenchValue) : Type 0 where
  pub regions : new.contents.regions ≡ old.contents.regions
  pub each : (k : ℕ) → Syncs (region_at old.contents k) (region_at new.contents k)
  pub rest : new.contents.rest ≡ old.contents.rest
  pub orders : new.orders ≡ old.orders

-- the regions of the first devices are not dirty
abbrev pub AreSynced : ℕ → BenchValue → Type 0
AreSynced devices b = (d : ℕ) → d < devices → IsStable (region_at b.contents (region_of d))
