use Rattle.cu_base.proofs.Fields.{bytes_of-number}
use Rattle.cu_base.proofs.laws.numbers_write_back.Goals as goal

pub returns : goal.returns
returns c = bytes_of-number
