use Rattle.std.proofs.Common.{◌≤◌, length, arith}
use Rattle.cu_base.specs.declared.limits.TheConstants.{MAX_CAPSULE_BYTES}
use Rattle.capsule_grammar.specs.Spelling.{image_bytes}
use Rattle.recipe_files.specs.Builds.{image_of}
use Rattle.recipe_files.specs.Room.{found}
use Rattle.recipe_files.proofs.BuildLemmas.{images_more, item_room}
use Rattle.recipe_files.proofs.building.build_images.Goals as goal

pub build_image-requires : goal.build_image-requires
build_image-requires c =
    let room = item_room (found c.args.index.now) c.args.items.now c.loop-item.item-index
    c.item-item.result (omega arith) c.item-item.is in
    let within : length (image_bytes (image_of (found c.args.index.now) c.item-item.result))
    ≤ MAX_CAPSULE_BYTES = omega (arith, c.loop-item.invariant.within, room) in
    within

pub loop-item-preserved : goal.loop-item-preserved
loop-item-preserved c =
    let room = item_room (found c.args.index.now) c.args.items.now c.loop-item.item-index
    c.item-item.result (omega arith) c.item-item.is in
    record {
      within = omega (arith, c.loop-item.invariant.within, room);
      so_far = images_more (found c.args.index.now) c.args.items.now c.loop-item.item-index
          c.item-item.result _ _ _ (omega arith) c.item-item.is c.in_ok-image.ensures
          c.loop-item.invariant.so_far c.in_ok-push.ensures.ok;
    }
