use Rattle.std.proofs.Common.{◌<◌, arith, length}
use Rattle.mem_bench.proofs.RoomLemmas.{IsRegion-kept, kept_written}
use Rattle.mem_bench.proofs.room.Room.write.Goals as goal

pub returns-clause-value : goal.returns-clause-value
returns-clause-value c =
    let there : c.args.at < length c.self.inside.bytes.items =
    rw (← c.self.view_is) at c.requires.there in
    rw (
      ← c.self.view_is,
      c.put.ensures.items,
      c.dirty.ensures.most,
      kept_written c.self.inside.last.states.items c.self.inside.last.saved.items
          c.self.inside.last.marks.items c.self.inside.bytes.items c.self.invariant.0
          c.dirty.new.self.states.items c.dirty.new.self.saved.items c.dirty.new.self.marks.items
          c.args.bytes.now c.args.at
          (omega (arith, there, c.requires.inside, c.self.invariant.0)) c.requires.inside
          c.dirty.ensures.dirty (rw (c.deref.ensures.value) at c.dirty.ensures.synced)
          (rw (c.deref.ensures.value) at c.dirty.ensures.marks),
    )

pub returns-clause-rule : goal.returns-clause-rule
returns-clause-rule c =
    rw (← c.self.view_is) (IsRegion-kept c.self.inside.last.states.items
    c.self.inside.last.saved.items c.self.inside.last.marks.items c.self.inside.bytes.items)
