use Rattle.reference_machine.proofs.Reached.{moves_grow}
use Rattle.reference_machine.proofs.laws.the_bound_on_moves_grows.Goals as goal

pub returns : goal.returns
returns c = moves_grow
