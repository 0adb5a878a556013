use Rattle.dep_code.proofs.Decided.{section_or_refused_lemma}
use Rattle.dep_code.proofs.laws.section_or_refused.Goals as goal

pub returns : goal.returns
returns c = section_or_refused_lemma
