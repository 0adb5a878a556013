use Rattle.std.proofs.Common.{◌+◌, ◌≤◌, ℕ, ◌++◌, ◌∙◌, ap, arith, drop, length}
use Rattle.cu_base.specs.declared.limits.TheConstants.{MAX_CAPSULE_BYTES}
use Rattle.capsule_grammar.specs.Spelling.{image_bytes}
use Rattle.recipe_files.specs.Builds.{image_of}
use Rattle.recipe_files.specs.Room.{found}
use Rattle.recipe_files.proofs.BuildLemmas.{item_room}
use Rattle.recipe_files.proofs.LayLemmas.{images_next, images_of, list_of, offset_on}
use Rattle.recipe_files.proofs.heads.put_item_offsets.Goals as goal

pub item_size-here-requires : goal.item_size-here-requires
item_size-here-requires c =
    let room = item_room (found c.args.index.now) c.args.items.now c.loop-item.item-index
    c.item-item.result (omega arith) c.item-item.is in
    let within : length (image_bytes (image_of (found c.args.index.now) c.item-item.result))
    ≤ MAX_CAPSULE_BYTES = omega (arith, c.loop-item.invariant.here, room, c.requires) in
    within

pub overflow_add-here : goal.overflow_add-here
overflow_add-here c =
    omega (
      arith,
      c.loop-item.invariant.here,
      c.requires,
      c.item_size-here.ensures,
      item_room (found c.args.index.now) c.args.items.now c.loop-item.item-index
          c.item-item.result (omega arith) c.item-item.is,
    )

pub loop-item-preserved : goal.loop-item-preserved
loop-item-preserved c =
    let f = found c.args.index.now in
    let items = c.args.items.now in
    let k = c.loop-item.item-index in
    let item = c.item-item.result in
    let rest = images_of f (drop (k + 1) items) in
    record {
      here = omega (
        arith,
        c.loop-item.invariant.here,
        c.item_size-here.ensures,
        item_room f items k item (omega arith) c.item-item.is,
      );
      so_far = ap (λ (n : ℕ). c.put_u64.new.out ++ list_of (c.loop-item.here + n) rest)
          c.item_size-here.ensures
          ∙ offset_on _ c.loop-item.out c.put_u64.new.out c.loop-item.here
          (images_of f (drop k items)) rest (image_bytes (image_of f item))
          (images_next f items k item (omega arith) c.item-item.is) c.loop-item.invariant.so_far
          c.in_ok-put_u64.ensures.ok;
    }
