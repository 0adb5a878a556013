use Rattle.var_log.proofs.BankLemmas.{kept, same_store_in}
use Rattle.var_log.proofs.laws.bytes_behind_the_end_do_not_matter.Goals as goal

pub returns : goal.returns
returns c = λ old new long same within shut.
    same_store_in old new (kept old new (record { long = long; same = same }) within shut)
