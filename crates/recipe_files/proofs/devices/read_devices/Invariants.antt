use Rattle.std.proofs.Common.{◌≡◌, ◌+◌, map, take}
use Rattle.toml.specs.View.{view}
use Rattle.bench_model.specs.Devices.{capacity_of}
use Rattle.recipe_files.specs.Devices.{device_of, entries_test}
use Rattle.recipe_files.proofs.FaultLemmas.{entry_fault_from}
use Rattle.recipe_files.proofs.devices.read_devices.Given as goal

abbrev pub invariant-loop-entry : goal.invariant-loop-entry
invariant-loop-entry l = record {
  same : l.entry-items ≡ l.list.items;
  rest : entries_test l.most (map view l.list.items)
      ≡ entry_fault_from l.room l.devices.items l.list.items l.entry-index;
  capacity : capacity_of l.devices.items + l.room ≡ l.most;
  so_far : l.devices.items ≡ map device_of (map view (take l.entry-index l.list.items));
}
