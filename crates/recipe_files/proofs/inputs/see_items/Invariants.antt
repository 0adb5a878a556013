use Rattle.std.proofs.Common.{map, take}
use Rattle.recipe_files.specs.Mentions.{payload_name}
use Rattle.recipe_files.specs.Seen.{Sees, seen}
use Rattle.recipe_files.proofs.inputs.see_items.Given as goal

abbrev pub invariant-loop-item : goal.invariant-loop-item
invariant-loop-item l =
    Sees (seen l.initial.names) (map payload_name (take l.item-index l.items)) (seen l.names)
