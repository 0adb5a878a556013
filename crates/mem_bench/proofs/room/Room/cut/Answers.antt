use Rattle.mem_bench.proofs.RoomLemmas.{IsRegion-kept}
use Rattle.mem_bench.proofs.room.Room.cut.Goals as goal

pub returns-clause-rule : goal.returns-clause-rule
returns-clause-rule c =
    rw (← c.self.view_is) (IsRegion-kept c.self.inside.last.states.items
    c.self.inside.last.saved.items c.self.inside.last.marks.items c.self.inside.bytes.items)
