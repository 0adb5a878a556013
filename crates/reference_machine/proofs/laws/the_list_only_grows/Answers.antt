use Rattle.reference_machine.proofs.Reached.{events_grow, boots_grow}
use Rattle.reference_machine.proofs.laws.the_list_only_grows.Goals as goal

pub returns : goal.returns
returns c = record { events = events_grow; boots = boots_grow }
