use Rattle.capsule_grammar.proofs.AllLemmas as lemmas
use Rattle.capsule_grammar.proofs.laws.all_or_refused.Goals as goal

pub returns : goal.returns
returns c = lemmas.all_or_refused
