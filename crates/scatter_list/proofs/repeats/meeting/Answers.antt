use Rattle.std.proofs.Common.{sym, arith}
use Rattle.scatter_list.specs.Walk.{next}
use Rattle.scatter_list.proofs.Rho.{step_none, so_far_more, far_more, far_yet, no_meeting_yet}
use Rattle.scatter_list.proofs.Rho.{no_meeting_more}
use Rattle.scatter_list.proofs.repeats.meeting.Goals as goal

pub loop-index-init : goal.loop-index-init
loop-index-init g c =
    let f = next (g.M.PhysMem.segments c.args.memory.now) in
    record {
      slow = sym (step_none f c.args.root);
      fast = far_yet f c.args.root c.args.period _ c.address_after-ahead.ensures.value;
      none = no_meeting_yet f c.args.root c.args.period;
      count = omega (arith, c.address_after-ahead.ensures.counts);
    }

pub loop-index-preserved : goal.loop-index-preserved
loop-index-preserved g c =
    let f = next (g.M.PhysMem.segments c.args.memory.now) in
    let so_far = c.loop-index.invariant in
    record {
      slow = so_far_more f c.args.root c.loop-index._index _ _ so_far.slow
          c.next_address-behind.ensures.value;
      fast = far_more f c.args.root c.loop-index._index c.args.period _ _ so_far.fast
          c.next_address-ahead.ensures.value;
      none = no_meeting_more f c.args.root c.args.period c.loop-index._index _ _ so_far.none
          so_far.slow so_far.fast c.if-behind-ahead.false;
      count = omega (
        arith,
        c.next_address-behind.ensures.counts,
        c.next_address-ahead.ensures.counts,
        so_far.count,
      );
    }
