use Rattle.std.proofs.Common.{◌≡◌, ◌++◌, length, take, sym, ap, ◌∙◌, arith}
use Rattle.std.proofs.lemmas.List.{append-nil}
use Rattle.std.proofs.lemmas.Grind.{common_steps}
use Rattle.scatter_list.proofs.ReadLemmas.{none_read, none_whole, piece_more, piece_less}
use Rattle.scatter_list.proofs.blocks.push_block.Goals as goal

pub loop-done-init : goal.loop-done-init
loop-done-init g c =
    let memory = g.M.PhysMem.segments c.args.memory.now in
    record {
      so_far = sym (ap (λ xs. c.args.out.now ++ xs) (none_read memory c.args.at)
          ∙ append-nil c.args.out.now);
      whole = none_whole memory c.args.at;
      within = omega arith;
      fits = omega (arith, c.ranges.at.fits);
    }

pub returns-then-not-branch-clause-value : goal.returns-then-not-branch-clause-value
returns-then-not-branch-clause-value g c =
    let long : length (take c.min-count.result c.loop-done.piece) ≡ c.min-count.result =
    grind (arith, common_steps) in
    piece_less (g.M.PhysMem.segments c.args.memory.now) c.args.at c.args.size c.loop-done.done _
    c.min-count.result _ _ c.in_ok-push_piece.field-0 long
    (omega (arith, c.min-count.ensures, c.loop-done.invariant.within))
    c.in_ok-push_piece.ensures.value c.if-not-branch.true

pub loop-done-preserved : goal.loop-done-preserved
loop-done-preserved g c =
    let long : length (take c.min-count.result c.loop-done.piece) ≡ c.min-count.result =
    grind (arith, common_steps) in
    let more = piece_more (g.M.PhysMem.segments c.args.memory.now) c.args.at c.loop-done.done _
    c.min-count.result c.args.out.now c.loop-done.out c.push_piece.new.out
    c.in_ok-push_piece.field-0 long c.loop-done.invariant.so_far c.loop-done.invariant.whole
    c.in_ok-push_piece.ensures.value c.if-not-branch.false in
    record {
      so_far = more.bytes;
      whole = more.there;
      within = omega (arith, c.min-count.ensures, c.loop-done.invariant.within);
      fits = omega (arith, more.end);
    }
