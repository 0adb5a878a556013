use Rattle.reference_machine.proofs.Reading.{cut_reach}
use Rattle.reference_machine.proofs.laws.cut_events_leave_reached_machines.Goals as goal

pub returns : goal.returns
returns c = cut_reach
