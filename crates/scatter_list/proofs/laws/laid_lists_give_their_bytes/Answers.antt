use Rattle.scatter_list.proofs.LaidLemmas.{gives_back}
use Rattle.scatter_list.proofs.LawLemmas.{laid_joined}
use Rattle.scatter_list.proofs.laws.laid_lists_give_their_bytes.Goals as goal

pub returns : goal.returns
returns c = record { gives = gives_back; joined = laid_joined }
