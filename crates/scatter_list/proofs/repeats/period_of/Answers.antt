use Rattle.std.proofs.Common.{sym, ◌∙◌, arith}
use Rattle.scatter_list.specs.Walk.{next}
use Rattle.scatter_list.proofs.Rho.{step_none, so_far_more, no_return_yet, no_return_more}
use Rattle.scatter_list.proofs.Rho.{period_here}
use Rattle.scatter_list.proofs.repeats.period_of.Goals as goal

pub loop-n-init : goal.loop-n-init
loop-n-init g c =
    let f = next (g.M.PhysMem.segments c.args.memory.now) in
    record {
      so_far = sym (step_none f c.args.from);
      none = no_return_yet f c.args.from;
      count = omega arith;
    }

pub loop-n-preserved : goal.loop-n-preserved
loop-n-preserved g c =
    let f = next (g.M.PhysMem.segments c.args.memory.now) in
    let here = so_far_more f c.args.from c.loop-n.n _ _ c.loop-n.invariant.so_far
    c.next_address-at.ensures.value in
    record {
      so_far = here;
      none = no_return_more f c.args.from c.loop-n.n c.loop-n.invariant.none
          (λ is. c.if-at-from.false (here ∙ is));
      count = omega (arith, c.next_address-at.ensures.counts, c.loop-n.invariant.count);
    }

pub returns-then-at-from-clause-value : goal.returns-then-at-from-clause-value
returns-then-at-from-clause-value g c =
    let f = next (g.M.PhysMem.segments c.args.memory.now) in
    let here = so_far_more f c.args.from c.loop-n.n _ _ c.loop-n.invariant.so_far
    c.next_address-at.ensures.value in (
      period_here f c.args.from c.loop-n.n c.loop-n.invariant.none
          (sym here ∙ c.if-at-from.true),
      omega (arith, c.loop-n-test.true),
    )
