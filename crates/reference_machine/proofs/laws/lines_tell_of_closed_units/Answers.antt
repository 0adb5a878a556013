use Rattle.reference_machine.proofs.Reached.{lines_told}
use Rattle.reference_machine.proofs.laws.lines_tell_of_closed_units.Goals as goal

pub returns : goal.returns
returns c = lines_told
