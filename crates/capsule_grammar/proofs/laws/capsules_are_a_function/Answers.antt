use Rattle.capsule_grammar.specs.declared.all.TheConstants.{MAX_CAPSULES}
use Rattle.capsule_grammar.proofs.CapsulesLemmas.{capsules_lemma, no_capsules_lemma, few_within}
use Rattle.capsule_grammar.proofs.laws.capsules_are_a_function.Goals as goal

pub returns-clause-some : goal.returns-clause-some
returns-clause-some c = capsules_lemma

pub returns-clause-none : goal.returns-clause-none
returns-clause-none c = no_capsules_lemma

pub returns-clause-bound : goal.returns-clause-bound
returns-clause-bound c = few_within MAX_CAPSULES
