use Rattle.dep_code.proofs.LawLemmas.{one_tree_lemma}
use Rattle.dep_code.proofs.laws.one_tree.Goals as goal

pub returns : goal.returns
returns c = one_tree_lemma
