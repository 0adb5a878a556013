use Rattle.std.proofs.Common.{◌≡◌, ◌+◌, length, drop}
use Rattle.recipe_files.specs.Room.{found}
use Rattle.recipe_files.proofs.BuildLemmas.{images_bytes}
use Rattle.recipe_files.proofs.room.behind_items.Given as goal

abbrev pub invariant-loop-item : goal.invariant-loop-item
invariant-loop-item l =
    l.left + length (images_bytes (found l.index) l.items)
    ≡ l.room + length (images_bytes (found l.index) (drop l.item-index l.items))
