use Rattle.std.proofs.Common.{◌≡◌, ◌+◌, ◌++◌, length, drop, map}
use Rattle.std.specs.List.{concat}
use Rattle.capsule_grammar.specs.Pieces.{joined}
use Rattle.recipe_files.specs.Builds.{drivers_of}
use Rattle.recipe_files.specs.Room.{found}
use Rattle.recipe_files.proofs.pieces.put_drivers.Given as goal

abbrev pub invariant-loop-name : goal.invariant-loop-name
invariant-loop-name l = record {
  behind : l.behind ≡ length (drop l.name-index l.drivers) + l.later;
  so_far : joined l.pieces.items
      ++ concat (drivers_of l.later (map (found l.index) (drop l.name-index l.drivers)))
      ≡ joined l.fn.pieces.items
      ++ concat (drivers_of l.later (map (found l.index) l.drivers));
}
