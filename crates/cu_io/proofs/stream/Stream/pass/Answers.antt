use Rattle.std.proofs.Common.{rules}
use Rattle.cu_io.proofs.Taking.{passes_after}
use Rattle.cu_io.proofs.stream.Stream.pass.Goals as goal

pub loop-passed-preserved : goal.loop-passed-preserved
loop-passed-preserved g c = record {
  came = passes_after _ _ _ _ _ c.loop-passed.invariant.came c.in_ok-passed.ensures.ok;
  within = search rules;
}
