use Rattle.std.proofs.Common.{◌≤◌, ◌+◌, arith, drop, length}
use Rattle.cu_base.specs.declared.limits.TheConstants.{MAX_CAPSULE_BYTES}
use Rattle.capsule_grammar.specs.Pieces.{joined}
use Rattle.capsule_grammar.specs.Spelling.{image_bytes}
use Rattle.recipe_files.specs.Builds.{image_of}
use Rattle.recipe_files.specs.Room.{found}
use Rattle.recipe_files.proofs.BuildLemmas.{item_room}
use Rattle.recipe_files.proofs.LayLemmas.{bytes_on, images_next, images_of}
use Rattle.recipe_files.proofs.pieces.put_images.Goals as goal

pub put_image-requires : goal.put_image-requires
put_image-requires c =
    let room = item_room (found c.args.index.now) c.args.items.now c.loop-item.item-index
    c.item-item.result (omega arith) c.item-item.is in
    let within : length (image_bytes (image_of (found c.args.index.now) c.item-item.result))
    ≤ MAX_CAPSULE_BYTES = omega (arith, c.loop-item.invariant.within, room) in
    within

pub loop-item-preserved : goal.loop-item-preserved
loop-item-preserved c =
    let f = found c.args.index.now in
    let items = c.args.items.now in
    let k = c.loop-item.item-index in
    let item = c.item-item.result in
    record {
      within = omega (
        arith,
        c.loop-item.invariant.within,
        item_room f items k item (omega arith) c.item-item.is,
      );
      so_far = bytes_on _ (joined c.loop-item.pieces.items) (joined c.put_image.new.pieces.items)
          (images_of f (drop k items)) (images_of f (drop (k + 1) items))
          (image_bytes (image_of f item)) (images_next f items k item (omega arith) c.item-item.is)
          c.loop-item.invariant.so_far c.in_ok-put_image.ensures;
    }
