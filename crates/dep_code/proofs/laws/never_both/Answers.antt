use Rattle.dep_code.proofs.LawLemmas.{never_both_lemma}
use Rattle.dep_code.proofs.laws.never_both.Goals as goal

pub returns : goal.returns
returns c = never_both_lemma
