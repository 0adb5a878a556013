use Rattle.var_log.proofs.Reclaims.{unmoved}
use Rattle.var_log.proofs.log.VarLog.room.Goals as goal

pub returns-then-self-2-clause-images : goal.returns-then-self-2-clause-images
returns-then-self-2-clause-images g c = λ fresh.
    unmoved c.args.self.now (g.F.BenchState.state c.args.flash.now) (c.requires.stands fresh).lies

pub returns-then-bytes-free-clause-images : goal.returns-then-bytes-free-clause-images
returns-then-bytes-free-clause-images g c = λ fresh.
    unmoved c.args.self.now (g.F.BenchState.state c.args.flash.now) (c.requires.stands fresh).lies
