use Rattle.reference_machine.proofs.Reached.{one, some}
use Rattle.reference_machine.proofs.laws.without_faults_there_is_one_machine.Goals as goal

pub returns : goal.returns
returns c = record { one = one; some = some }
