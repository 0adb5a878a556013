use Rattle.capsule_grammar.proofs.AllLemmas as lemmas
use Rattle.capsule_grammar.proofs.laws.one_list.Goals as goal

pub returns : goal.returns
returns c = lemmas.one_list
