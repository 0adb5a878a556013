use Rattle.bench_model.proofs.MemoryLemmas.{lacking_at}
use Rattle.bench_model.proofs.segment.are_there.Goals as goal

pub returns-then-next-to-clause-lacking : goal.returns-then-next-to-clause-lacking
returns-then-next-to-clause-lacking c =
    lacking_at _ _ c.loop-to.to _ c.loop-to.invariant.bound c.loop-to-test.true
    (c.end_from-next.ensures.lacking c.if-next-to.true)
