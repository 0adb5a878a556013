use Rattle.std.proofs.Common.{length}
use Rattle.mem_bench.proofs.RoomLemmas.{kept_clean}
use Rattle.mem_bench.proofs.room.Room.sync.Goals as goal

pub returns : goal.returns
returns c =
    rw (
      ← c.self.view_is,
      c.sync.ensures.states,
      c.sync.ensures.most,
      kept_clean (length c.self.inside.last.states.items) c.sync.new.self.saved.items
          c.sync.new.self.marks.items c.self.inside.bytes.items,
    )
