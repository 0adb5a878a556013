use Rattle.std.proofs.Common.{◌≡◌, ◌++◌, map, take}
use Rattle.bench_model.specs.Factory.{first_device}
use Rattle.mem_bench.specs.Regions.{stable_region}
use Rattle.mem_bench.proofs.factory.push_devices.Given as goal

abbrev pub invariant-loop-device : goal.invariant-loop-device
invariant-loop-device l = record {
  so_far : l.regions.items ≡ l.initial.regions.items
      ++ map stable_region (map (first_device l.two_banks) (take l.device-index l.devices));
}
