use Rattle.var_log.proofs.Gates.{shut_by}
use Rattle.var_log.proofs.moving.shut.Goals as goal

pub returns-clause-done : goal.returns-clause-done
returns-clause-done g c = λ told.
    shut_by c.args.at _ _ _ c.write.ensures.writes c.in_ok-write.ensures.ok c.sync.ensures.writes told
