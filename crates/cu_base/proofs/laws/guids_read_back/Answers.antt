use Rattle.cu_base.proofs.GuidLemmas.{reads_back}
use Rattle.cu_base.proofs.laws.guids_read_back.Goals as goal

pub returns : goal.returns
returns c = reads_back
