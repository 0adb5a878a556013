use Rattle.delivery_formats.proofs.FormatLemmas.{parts_seen, no_parts_seen}
use Rattle.delivery_formats.proofs.laws.parts_are_those_of_the_image.Goals as goal

pub returns-clause-some : goal.returns-clause-some
returns-clause-some c = parts_seen

pub returns-clause-none : goal.returns-clause-none
returns-clause-none c = no_parts_seen
