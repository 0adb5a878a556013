use Rattle.scatter_list.proofs.LawLemmas.{some_walk}
use Rattle.scatter_list.proofs.laws.walks_end.Goals as goal

pub returns : goal.returns
returns c = some_walk
