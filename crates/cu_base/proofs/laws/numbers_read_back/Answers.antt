use Rattle.cu_base.proofs.Fields.{number-bytes_of}
use Rattle.cu_base.proofs.laws.numbers_read_back.Goals as goal

pub returns : goal.returns
returns c = λ size n small. number-bytes_of size n small
