use Rattle.reference_machine.proofs.Reached.{attempts}
use Rattle.reference_machine.proofs.laws.attempts_reach_the_floor.Goals as goal

pub returns : goal.returns
returns c = attempts
