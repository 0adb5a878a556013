use Rattle.dev_claims.proofs.Due.{due_is_next, progress_fits}
use Rattle.dev_claims.proofs.laws.due_units_are_next.Goals as goal

pub returns : goal.returns
returns c = record { progress = progress_fits; unit = due_is_next }
