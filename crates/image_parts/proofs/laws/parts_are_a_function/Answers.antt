use Rattle.image_parts.proofs.PartsLemmas.{parts_lemma, no_parts_lemma}
use Rattle.image_parts.proofs.laws.parts_are_a_function.Goals as goal

pub returns-clause-some : goal.returns-clause-some
returns-clause-some c = parts_lemma

pub returns-clause-none : goal.returns-clause-none
returns-clause-none c = no_parts_lemma
