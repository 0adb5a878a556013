-- The bench of a board that leaves the factory.
use Rattle.std.specs.Prelude.{◌≡◌, ℕ, ◌<◌, ◌^◌, Some, slice_get}
use Rattle.bench_model.specs.Boards.{BoardValue}
use Rattle.bench_model.specs.Devices.{DeviceValue}

-- version and floor of each device are numbers of 32 bits
pub record HaveWidths (board : BoardValue) : Type 0 where
  pub each : (i : ℕ) (d : DeviceValue) → slice_get board.devices i ≡ Some d
      → (d.version < 2 ^ 32) × (d.floor < 2 ^ 32)
