use Rattle.std.proofs.Common.{◌≡◌, ◌≤◌, ◌++◌, length, drop}
use Rattle.cu_base.specs.declared.limits.TheConstants.{MAX_CAPSULE_BYTES}
use Rattle.capsule_grammar.specs.Pieces.{joined}
use Rattle.recipe_files.specs.Room.{found}
use Rattle.recipe_files.proofs.BuildLemmas.{images_bytes}
use Rattle.recipe_files.proofs.pieces.put_images.Given as goal

abbrev pub invariant-loop-item : goal.invariant-loop-item
invariant-loop-item l = record {
  within : length (images_bytes (found l.index) (drop l.item-index l.items)) ≤ MAX_CAPSULE_BYTES;
  so_far : joined l.pieces.items ++ images_bytes (found l.index) (drop l.item-index l.items)
      ≡ joined l.fn.pieces.items ++ images_bytes (found l.index) l.items;
}
