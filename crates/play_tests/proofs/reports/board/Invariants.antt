use Rattle.std.proofs.Common.{◌≡◌, take}
use Rattle.bench_model.specs.Devices.{capacity_of}
use Rattle.play_tests.proofs.reports.board.Given as goal

-- the capacities so far
abbrev pub invariant-loop-device : goal.invariant-loop-device
invariant-loop-device g l = l.capacities ≡ capacity_of (take l.device-index l.list)
