use Rattle.dep_code.proofs.LawLemmas.{one_refusal_lemma}
use Rattle.dep_code.proofs.laws.one_refusal.Goals as goal

pub returns : goal.returns
returns c = one_refusal_lemma
