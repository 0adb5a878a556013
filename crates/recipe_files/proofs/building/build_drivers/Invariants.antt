use Rattle.std.proofs.Common.{◌≡◌, ◌+◌, ◌++◌, length, drop, map}
use Rattle.recipe_files.specs.Builds.{drivers_of}
use Rattle.recipe_files.specs.Room.{found}
use Rattle.recipe_files.proofs.building.build_drivers.Given as goal

abbrev pub invariant-loop-name : goal.invariant-loop-name
invariant-loop-name l = record {
  behind : l.behind ≡ length (drop l.name-index l.drivers) + l.later;
  so_far : l.blobs.items
      ++ drivers_of l.later (map (found l.index) (drop l.name-index l.drivers))
      ≡ drivers_of l.later (map (found l.index) l.drivers);
}
