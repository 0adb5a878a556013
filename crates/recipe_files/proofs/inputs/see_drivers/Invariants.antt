use Rattle.std.proofs.Common.{take}
use Rattle.recipe_files.specs.Seen.{Sees, seen}
use Rattle.recipe_files.proofs.inputs.see_drivers.Given as goal

abbrev pub invariant-loop-driver : goal.invariant-loop-driver
invariant-loop-driver l =
    Sees (seen l.initial.names) (take l.driver-index l.drivers) (seen l.names)
