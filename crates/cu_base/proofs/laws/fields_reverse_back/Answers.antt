use Rattle.cu_base.proofs.GuidLemmas.{reverses_back}
use Rattle.cu_base.proofs.laws.fields_reverse_back.Goals as goal

pub returns : goal.returns
returns c = λ bytes long. reverses_back bytes long
