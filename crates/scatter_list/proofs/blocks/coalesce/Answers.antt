use Rattle.std.proofs.Common.{Some, refl, sym, ◌∙◌}
use Rattle.scatter_list.specs.Walk.{next}
use Rattle.scatter_list.proofs.BlockLemmas.{no_blocks, blocks_more, none_lacking, lacking_more}
use Rattle.scatter_list.proofs.BlockLemmas.{lacks_here, refused_within, never_gone}
use Rattle.scatter_list.proofs.Rho.{step_none}
use Rattle.scatter_list.proofs.WalkLemmas.{address_more}
use Rattle.scatter_list.proofs.blocks.coalesce.Goals as goal

pub loop-index-init : goal.loop-index-init
loop-index-init g c =
    let memory = g.M.PhysMem.segments c.args.memory.now in
    let root = c.args.shape.now.root in
    record {
      here = sym (step_none (next memory) root);
      so_far = c.reserve.ensures ∙ c.new-out.ensures ∙ sym (no_blocks memory root);
      none = none_lacking memory root;
    }

pub unreachable-requires : goal.unreachable-requires
unreachable-requires g c =
    never_gone (g.M.PhysMem.segments c.args.memory.now) c.args.shape.now c.loop-index._index
    c.loop-index.at c.requires.walked c.loop-index-test.true c.loop-index.invariant.here
    (c.in_default.ensures.refused refl)

pub returns-then-not-branch-clause-refused : goal.returns-then-not-branch-clause-refused
returns-then-not-branch-clause-refused g c =
    let memory = g.M.PhysMem.segments c.args.memory.now in
    let so_far = c.loop-index.invariant in
    refused_within memory c.args.shape.now c.args.limit (Some c.loop-index.at)
    c.if-shape-limit.false
    (lacks_here memory c.args.shape.now.root c.loop-index._index c.args.shape.now.descriptors
    c.loop-index.at c.in-Some.descriptor c.in_ok-push_block.field-0 c.loop-index-test.true
    so_far.here c.in-Some.ensures.value c.in_ok-push_block.ensures.value c.if-not-branch.true
    so_far.none)

pub loop-index-preserved : goal.loop-index-preserved
loop-index-preserved g c =
    let memory = g.M.PhysMem.segments c.args.memory.now in
    let so_far = c.loop-index.invariant in
    let root = c.args.shape.now.root in
    record {
      here = address_more memory root c.loop-index._index c.loop-index.at _
          c.in-Some.descriptor so_far.here c.in-Some.ensures.value c.behind-at.ensures;
      so_far = blocks_more memory root c.loop-index._index c.loop-index.at c.in-Some.descriptor
          c.loop-index.out c.push_block.new.out so_far.here c.in-Some.ensures.value so_far.so_far
          (c.in_ok-push_block.ensures.ok c.if-not-branch.false);
      none = lacking_more memory root c.loop-index._index c.loop-index.at c.in-Some.descriptor
          c.in_ok-push_block.field-0 so_far.here c.in-Some.ensures.value
          c.in_ok-push_block.ensures.value c.if-not-branch.false so_far.none;
    }
