use Rattle.std.proofs.Common.{◌≡◌, ◌+◌, ◌++◌, length, drop}
use Rattle.recipe_files.specs.Room.{found}
use Rattle.recipe_files.proofs.BuildLemmas.{images_bytes}
use Rattle.recipe_files.proofs.LayLemmas.{images_of, list_of}
use Rattle.recipe_files.proofs.heads.put_item_offsets.Given as goal

abbrev pub invariant-loop-item : goal.invariant-loop-item
invariant-loop-item l = record {
  here : l.here + length (images_bytes (found l.index) (drop l.item-index l.items))
      ≡ l.first + length (images_bytes (found l.index) l.items);
  so_far : l.out ++ list_of l.here (images_of (found l.index) (drop l.item-index l.items))
      ≡ l.fn.out ++ list_of l.first (images_of (found l.index) l.items);
}
