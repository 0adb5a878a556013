use Rattle.std.proofs.Common.{◌≡◌, ◌≤◌, length, drop, map, take}
use Rattle.cu_base.specs.declared.limits.TheConstants.{MAX_CAPSULE_BYTES}
use Rattle.recipe_files.specs.Builds.{image_of}
use Rattle.recipe_files.specs.Room.{found}
use Rattle.recipe_files.proofs.BuildLemmas.{images_bytes}
use Rattle.recipe_files.proofs.building.build_images.Given as goal

abbrev pub invariant-loop-item : goal.invariant-loop-item
invariant-loop-item l = record {
  within : length (images_bytes (found l.index) (drop l.item-index l.items)) ≤ MAX_CAPSULE_BYTES;
  so_far : l.images.items ≡ map (image_of (found l.index)) (take l.item-index l.items);
}
