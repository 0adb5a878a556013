use Rattle.reference_machine.proofs.Reached.{open_last}
use Rattle.reference_machine.proofs.laws.the_last_alone_is_open.Goals as goal

pub returns : goal.returns
returns c = open_last
