use Rattle.std.proofs.Common.{◌≡◌, ◌+◌, ◌++◌, length, drop, map}
use Rattle.std.specs.List.{concat}
use Rattle.recipe_files.specs.Builds.{drivers_of}
use Rattle.recipe_files.specs.Room.{found}
use Rattle.recipe_files.proofs.LayLemmas.{list_of}
use Rattle.recipe_files.proofs.heads.put_driver_offsets.Given as goal

abbrev pub invariant-loop-name : goal.invariant-loop-name
invariant-loop-name l = record {
  behind : l.behind ≡ length (drop l.name-index l.drivers) + l.later;
  here : l.here
      + length (concat (drivers_of l.later (map (found l.index) (drop l.name-index l.drivers))))
      ≡ l.first + length (concat (drivers_of l.later (map (found l.index) l.drivers)));
  so_far : l.out
      ++ list_of l.here (drivers_of l.later (map (found l.index) (drop l.name-index l.drivers)))
      ≡ l.fn.out ++ list_of l.first (drivers_of l.later (map (found l.index) l.drivers));
}
