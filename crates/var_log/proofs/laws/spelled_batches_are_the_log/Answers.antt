use Rattle.var_log.proofs.Splits.{spelled_log}
use Rattle.var_log.proofs.laws.spelled_batches_are_the_log.Goals as goal

pub returns : goal.returns
returns c = spelled_log
