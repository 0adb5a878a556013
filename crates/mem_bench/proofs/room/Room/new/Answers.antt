use Rattle.mem_bench.proofs.RoomLemmas.{no_blocks}
use Rattle.mem_bench.proofs.room.Room.new.Goals as goal

pub returns : goal.returns
returns c =
    rw (
      c.in_ok-with_room.ensures.items,
      c.in_ok-new.ensures.states,
      c.in_ok-new.ensures.most,
      no_blocks c.in_ok-new.field-0.saved.items c.in_ok-new.field-0.marks.items,
    )
