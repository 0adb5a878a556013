use Rattle.std.proofs.Common.{ℕ, ◌<◌, refl, sym, arith}
use Rattle.std.proofs.lemmas.Grind.{common_steps}
use Rattle.scatter_list.specs.Walk.{next}
use Rattle.scatter_list.proofs.Rho.{step_none}
use Rattle.scatter_list.proofs.WalkLemmas.{misaligned_here, unreadable_here, ok_here, total_none}
use Rattle.scatter_list.proofs.WalkLemmas.{goes_on_more, address_more, total_more}
use Rattle.scatter_list.proofs.walk.shape.Goals as goal

none_below : (k : ℕ) → k < 0 → ⊥
none_below k less = omega arith

pub loop-index-init : goal.loop-index-init
loop-index-init g c =
    let memory = g.M.PhysMem.segments c.args.memory.now in
    record {
      here = sym (step_none (next memory) c.args.root);
      sum = sym (total_none memory c.args.root);
      on = λ k less. absurd (none_below k less);
      most = omega arith;
      count = omega arith;
    }

pub returns-then-at-ne0-clause-value : goal.returns-then-at-ne0-clause-value
returns-then-at-ne0-clause-value g c =
    misaligned_here (g.M.PhysMem.segments c.args.memory.now) c.args.root c.loop-index.index
    c.loop-index.at c.loop-index-test.true c.loop-index.invariant.on c.loop-index.invariant.here
    c.if-at-ne0.true

pub returns-in_default-clause-value : goal.returns-in_default-clause-value
returns-in_default-clause-value g c =
    unreadable_here (g.M.PhysMem.segments c.args.memory.now) c.args.root c.loop-index.index
    c.loop-index.at c.loop-index-test.true c.loop-index.invariant.on c.loop-index.invariant.here
    c.if-at-ne0.false (c.in_default.ensures.refused refl)

pub returns-then-is_end-clause-value : goal.returns-then-is_end-clause-value
returns-then-is_end-clause-value g c =
    ok_here (g.M.PhysMem.segments c.args.memory.now) c.args.root c.loop-index.index
    c.loop-index.at c.loop-index.total c.in-Some.descriptor c.is_end.result
    c.loop-index-test.true c.loop-index.invariant.on c.loop-index.invariant.here
    c.loop-index.invariant.sum c.if-at-ne0.false c.in-Some.ensures.value c.is_end.ensures.value
    c.if-is_end.true

pub returns-then-is_end-clause-rule : goal.returns-then-is_end-clause-rule
returns-then-is_end-clause-rule g c =
    ok_here (g.M.PhysMem.segments c.args.memory.now) c.args.root c.loop-index.index
    c.loop-index.at c.loop-index.total c.in-Some.descriptor c.is_end.result
    c.loop-index-test.true c.loop-index.invariant.on c.loop-index.invariant.here
    c.loop-index.invariant.sum c.if-at-ne0.false c.in-Some.ensures.value c.is_end.ensures.value
    c.if-is_end.true

pub loop-index-preserved : goal.loop-index-preserved
loop-index-preserved g c =
    let memory = g.M.PhysMem.segments c.args.memory.now in
    let so_far = c.loop-index.invariant in
    record {
      here = address_more memory c.args.root c.loop-index.index c.loop-index.at _
          c.in-Some.descriptor so_far.here c.in-Some.ensures.value c.behind-at.ensures;
      sum = total_more memory c.args.root c.loop-index.index c.loop-index.at c.loop-index.total
          c.in-Some.descriptor so_far.here c.in-Some.ensures.value so_far.sum;
      on = goes_on_more memory c.args.root c.loop-index.index c.loop-index.at
          c.in-Some.descriptor c.is_end.result so_far.on so_far.here c.if-at-ne0.false
          c.in-Some.ensures.value c.is_end.ensures.value c.if-is_end.false;
      most = grind (arith, common_steps);
      count = omega (arith, c.tick.ensures.counts, so_far.count);
    }
