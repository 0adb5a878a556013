use Rattle.var_log.proofs.Formats.{fresh_store}
use Rattle.var_log.proofs.laws.formatted_banks_are_empty.Goals as goal

pub returns : goal.returns
returns c = fresh_store
