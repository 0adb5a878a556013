use Rattle.delivery_formats.proofs.FormatLemmas.{capsules_seen, no_capsules_seen}
use Rattle.delivery_formats.proofs.laws.capsules_are_those_spelled.Goals as goal

pub returns-clause-some : goal.returns-clause-some
returns-clause-some c = capsules_seen

pub returns-clause-none : goal.returns-clause-none
returns-clause-none c = no_capsules_seen
