use Rattle.reference_machine.proofs.Reached.{within, given}
use Rattle.reference_machine.proofs.laws.limits_are_kept.Goals as goal

pub returns : goal.returns
returns c = record { limits = within; serials = given }
