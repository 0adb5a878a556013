use Rattle.std.proofs.Common.{sym, arith}
use Rattle.scatter_list.specs.Walk.{next}
use Rattle.scatter_list.proofs.Rho.{step_none, so_far_more}
use Rattle.scatter_list.proofs.repeats.address_after.Goals as goal

pub loop-n-init : goal.loop-n-init
loop-n-init g c =
    let f = next (g.M.PhysMem.segments c.args.memory.now) in
    record { so_far = sym (step_none f c.args.from); count = omega arith }

pub loop-n-preserved : goal.loop-n-preserved
loop-n-preserved g c =
    let f = next (g.M.PhysMem.segments c.args.memory.now) in
    record {
      so_far = so_far_more f c.args.from c.loop-n._n _ _ c.loop-n.invariant.so_far
          c.next_address-at.ensures.value;
      count = omega (arith, c.next_address-at.ensures.counts, c.loop-n.invariant.count);
    }
