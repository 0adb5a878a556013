use Rattle.delivery_formats.proofs.FormatLemmas.{section_answers, none_answers}
use Rattle.delivery_formats.proofs.laws.sections_are_satisfied_by_their_trees.Goals as goal

pub returns-clause-some : goal.returns-clause-some
returns-clause-some c = section_answers

pub returns-clause-none : goal.returns-clause-none
returns-clause-none c = none_answers
