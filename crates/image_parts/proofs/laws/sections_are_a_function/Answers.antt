use Rattle.image_parts.proofs.SectionLemmas.{section_at_lemma, no_section_lemma}
use Rattle.image_parts.proofs.laws.sections_are_a_function.Goals as goal

pub returns-clause-some : goal.returns-clause-some
returns-clause-some c = section_at_lemma

pub returns-clause-none : goal.returns-clause-none
returns-clause-none c = no_section_lemma
