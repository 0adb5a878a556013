use Rattle.capsule_grammar.proofs.AllLemmas as lemmas
use Rattle.capsule_grammar.proofs.laws.never_both.Goals as goal

pub returns : goal.returns
returns c = lemmas.never_both
