use Rattle.reference_machine.proofs.Reached.{spends}
use Rattle.reference_machine.proofs.laws.spent_files_have_progress.Goals as goal

pub returns : goal.returns
returns c = spends
