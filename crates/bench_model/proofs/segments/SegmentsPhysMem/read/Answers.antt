use Rattle.std.proofs.Common.{arith}
use Rattle.bench_model.proofs.MemoryLemmas.{lacking_last}
use Rattle.bench_model.proofs.segments.SegmentsPhysMem.read.Goals as goal

pub returns-then-out-at-clause-refused : goal.returns-then-out-at-clause-refused
returns-then-out-at-clause-refused c =
    lacking_last _ _ _ c.as_slice-segments.ensures.rule.each (omega arith) (omega arith)
