use Rattle.std.proofs.Common.{◌≡◌, ◌+◌, ◌-◌, arith, length}
use Rattle.mem_bench.specs.declared.room.TheConstants.{BLOCK}
use Rattle.mem_bench.proofs.RoomLemmas.{IsRegion-kept, kept_lengthened}
use Rattle.mem_bench.proofs.room.Room.lengthen.Goals as goal

pub returns-clause-value : goal.returns-clause-value
returns-clause-value c =
    let more : c.len-size.result + BLOCK - length c.self.inside.bytes.items ≡ BLOCK =
    omega (arith, c.len-size.ensures) in
    rw (
      ← c.self.view_is,
      c.lengthen.ensures.items,
      more,
      c.push.ensures.states,
      c.push.ensures.saved,
      c.push.ensures.marks,
      c.push.ensures.most,
      kept_lengthened c.self.inside.last.states.items c.self.inside.last.saved.items
          c.self.inside.last.marks.items c.self.inside.bytes.items c.self.invariant.0,
    )

pub returns-clause-rule : goal.returns-clause-rule
returns-clause-rule c =
    rw (← c.self.view_is) (IsRegion-kept c.self.inside.last.states.items
    c.self.inside.last.saved.items c.self.inside.last.marks.items c.self.inside.bytes.items)
