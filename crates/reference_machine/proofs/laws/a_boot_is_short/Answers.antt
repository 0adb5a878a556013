use Rattle.reference_machine.proofs.Reached.{short}
use Rattle.reference_machine.proofs.laws.a_boot_is_short.Goals as goal

pub returns : goal.returns
returns c = short
