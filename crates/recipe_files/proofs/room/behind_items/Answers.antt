use Rattle.std.proofs.Common.{◌≡◌, ◌+◌, Err, arith, drop, length, rules}
use Rattle.recipe_files.specs.Room.{found}
use Rattle.recipe_files.proofs.BuildLemmas.{fits_not, images_bytes, item_room}
use Rattle.recipe_files.proofs.room.behind_items.Goals as goal

pub loop-item-preserved : goal.loop-item-preserved
loop-item-preserved c =
    omega (
      arith,
      c.loop-item.invariant,
      c.in_ok-left.ensures,
      item_room (found c.args.index.now) c.args.items.now c.loop-item.item-index
          c.item-item.result (omega arith) c.item-item.is,
    )

pub returns-in_err-left : goal.returns-in_err-left
returns-in_err-left c =
    let is : c.from_residual.result ≡ Err c.in_err-left.field-0.0 = search rules in
    let room = item_room (found c.args.index.now) c.args.items.now c.loop-item.item-index
    c.item-item.result (omega arith) c.item-item.is in
    let rest = length
    (images_bytes (found c.args.index.now) (drop (c.loop-item.item-index + 1) c.args.items.now)) in
    fits_not _ _ _ _ _ _ rest is c.in_err-left.ensures (omega (arith, c.loop-item.invariant, room))
