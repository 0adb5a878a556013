use Rattle.var_log.proofs.Formats.{none_open}
use Rattle.var_log.proofs.laws.shut_banks_are_no_store.Goals as goal

pub returns : goal.returns
returns c = none_open
