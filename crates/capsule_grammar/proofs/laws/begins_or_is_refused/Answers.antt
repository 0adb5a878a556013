use Rattle.capsule_grammar.proofs.FoundLemmas.{accepted_or_refused}
use Rattle.capsule_grammar.proofs.laws.begins_or_is_refused.Goals as goal

pub returns : goal.returns
returns c = accepted_or_refused
