use Rattle.scatter_list.proofs.LawLemmas.{joined_is, unjoined_is, shapeless_is}
use Rattle.scatter_list.proofs.laws.lists_are_walked_and_joined.Goals as goal

pub returns : goal.returns
returns c = record { joined = joined_is; unjoined = unjoined_is; shapeless = shapeless_is }
