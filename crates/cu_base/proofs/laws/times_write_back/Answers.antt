use Rattle.cu_base.proofs.TimeLemmas.{writes_back}
use Rattle.cu_base.proofs.laws.times_write_back.Goals as goal

pub returns : goal.returns
returns c = writes_back
