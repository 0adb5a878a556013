use Rattle.reference_machine.proofs.Reached.{apart}
use Rattle.reference_machine.proofs.laws.deliveries_are_apart.Goals as goal

pub returns : goal.returns
returns c = apart
