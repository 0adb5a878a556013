-- What the calls on a slot change and count.
use Rattle.std.specs.Prelude.{◌≡◌, ℕ, ◌+◌, ◌≤◌, length, Result, OnOk}
use Rattle.cu_base.specs.Causes.{RoseBy, HasCauseOf}
use Rattle.bench_model.specs.Bench.{BenchValue, ChangesRegion, region_of}
use Rattle.fmp_slot.specs.declared.faults.SlotFault.{SlotFault}
use Rattle.fmp_slot.specs.declared.faults.SlotFault.TheVariants.{Flash}

-- a count rose by just so much; it stays at its last value
pub record RisesBy (n before now : ℕ) : Type 0 where
  pub least : RoseBy n before now
  pub most : now ≤ before + n

-- a count did not fall, and rose by at most so much
pub record RisesAtMost (n before now : ℕ) : Type 0 where
  pub least : RoseBy 0 before now
  pub most : now ≤ before + n

-- just so many moves and looks were made where the call succeeded, and never more
pub record Spends {T E : Type 0} (moves looks : ℕ) (result : Result T E)
    (old new : BenchValue) : Type 0 where
  pub moved : OnOk result (RisesBy moves old.counts.moves new.counts.moves)
  pub looked : OnOk result (RisesBy looks old.counts.looks new.counts.looks)
  pub most_moves : RisesAtMost moves old.counts.moves new.counts.moves
  pub most_looks : RisesAtMost looks old.counts.looks new.counts.looks
  pub others : new.counts.volume_faults ≡ old.counts.volume_faults

-- just so many moves were made where the call succeeded and never more, and at most so many looks
pub record SpendsUpTo {T E : Type 0} (moves looks : ℕ) (result : Result T E)
    (old new : BenchValue) : Type 0 where
  pub moved : OnOk result (RisesBy moves old.counts.moves new.counts.moves)
  pub most_moves : RisesAtMost moves old.counts.moves new.counts.moves
  pub most_looks : RisesAtMost looks old.counts.looks new.counts.looks
  pub others : new.counts.volume_faults ≡ old.counts.volume_faults

-- nothing changes but this region, which keeps its length, counts and the plan
pub record ChangesSlot (region : ℕ) (old new : BenchValue) : Type 0 where
  pub others : ChangesRegion region old new
  pub long : length (new.contents.bytes region) ≡ length (old.contents.bytes region)

-- nothing changes but the region of the device
abbrev pub ChangesDevice : ℕ → BenchValue → BenchValue → Type 0
ChangesDevice device old new = ChangesSlot (region_of device) old new

-- a call answers Flash only where the count of faults of the flash rose, and the count never falls
abbrev pub SlotCause : {T : Type 0} → BenchValue → BenchValue → Result T SlotFault → Type 0
SlotCause old new result =
    HasCauseOf Flash old.counts.flash_faults new.counts.flash_faults result
