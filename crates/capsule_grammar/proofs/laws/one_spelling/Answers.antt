use Rattle.capsule_grammar.proofs.Spelled.{one_capsule, no_prefix}
use Rattle.capsule_grammar.proofs.laws.one_spelling.Goals as goal

pub returns-clause-same : goal.returns-clause-same
returns-clause-same c = one_capsule

pub returns-clause-no_prefix : goal.returns-clause-no_prefix
returns-clause-no_prefix c = no_prefix
