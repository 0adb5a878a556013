use Rattle.dep_code.proofs.LawLemmas.{one_section_lemma}
use Rattle.dep_code.proofs.laws.one_section.Goals as goal

pub returns : goal.returns
returns c = one_section_lemma
