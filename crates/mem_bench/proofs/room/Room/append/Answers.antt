use Rattle.mem_bench.proofs.RoomLemmas.{IsRegion-kept, kept_appended}
use Rattle.mem_bench.proofs.room.Room.append.Goals as goal

pub returns-clause-value : goal.returns-clause-value
returns-clause-value c =
    rw (
      ← c.self.view_is,
      c.append.ensures.items,
      c.push.ensures.states,
      c.push.ensures.saved,
      c.push.ensures.marks,
      c.push.ensures.most,
      kept_appended c.self.inside.last.states.items c.self.inside.last.saved.items
          c.self.inside.last.marks.items c.self.inside.bytes.items c.self.invariant.0
          c.args.block.now c.requires.whole,
    )

pub returns-clause-rule : goal.returns-clause-rule
returns-clause-rule c =
    rw (← c.self.view_is) (IsRegion-kept c.self.inside.last.states.items
    c.self.inside.last.saved.items c.self.inside.last.marks.items c.self.inside.bytes.items)
