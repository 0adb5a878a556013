use Rattle.std.proofs.Common.{rules}
use Rattle.cu_io.proofs.Taking.{goes_after, take_filled}
use Rattle.cu_io.proofs.stream.Stream.fill.Goals as goal

pub loop-filled-preserved : goal.loop-filled-preserved
loop-filled-preserved g c =
    let i = c.loop-filled.invariant in
    record {
      came = rw (take_filled c.loop-filled.filled c.in_ok-filled.field-0 c.loop-filled.out
          c.take.new.out i.within c.in_ok-filled.ensures.bound.1)
          (goes_after _ _ _ _ _ i.came c.in_ok-filled.ensures.ok);
      within = search rules;
      long = search rules;
    }
