use Rattle.std.proofs.Common.{arith}
use Rattle.mem_bench.proofs.RoomLemmas.{chosen_whole}
use Rattle.mem_bench.proofs.room.choose.Goals as goal

pub returns : goal.returns
returns c =
    chosen_whole c.args.last.now.states.items c.args.last.now.saved.items
    c.args.last.now.marks.items c.args.bytes.now c.requires c.args.choice c.loop-block.bytes
    c.loop-block.invariant.long
    (λ k below. c.loop-block.invariant.chosen k (omega (
      arith,
      below,
      c.requires,
      c.blocks-block-end.ensures,
    )))
