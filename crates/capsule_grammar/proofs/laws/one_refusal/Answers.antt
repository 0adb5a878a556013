use Rattle.capsule_grammar.proofs.AllLemmas as lemmas
use Rattle.capsule_grammar.proofs.laws.one_refusal.Goals as goal

pub returns : goal.returns
returns c = lemmas.one_refusal
