use Rattle.cap_boot.proofs.Batches.{ready_written}
use Rattle.cap_boot.proofs.writing.write_batch.Goals as goal

pub returns-in-Ok-clause-ready : goal.returns-in-Ok-clause-ready
returns-in-Ok-clause-ready g c =
    ready_written c.args.store.now c.write.new.self (g.F.BenchState.state c.args.flash.now)
    (g.F.BenchState.state c.write.new.flash) c.requires.ready c.write.ensures.frame
    c.in-Ok.ensures.value.pending c.in-Ok.ensures.value.stale c.in-Ok.ensures.stands
