use Rattle.std.proofs.Common.{◌≡◌, map, take}
use Rattle.recipe_files.specs.Seen.{bytes_of_name}
use Rattle.recipe_files.proofs.inputs.texts_of.Given as goal

abbrev pub invariant-loop-name : goal.invariant-loop-name
invariant-loop-name l = l.texts.items ≡ map bytes_of_name (take l.name-index l.names)
