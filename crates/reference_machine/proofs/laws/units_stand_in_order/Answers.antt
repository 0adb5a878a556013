use Rattle.reference_machine.proofs.Reached.{stand_in_order, keys_apart}
use Rattle.reference_machine.proofs.laws.units_stand_in_order.Goals as goal

pub returns : goal.returns
returns c = record { order = stand_in_order; keys = keys_apart }
