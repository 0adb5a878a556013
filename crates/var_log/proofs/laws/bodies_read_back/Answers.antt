use Rattle.var_log.proofs.Spelled.{read_body}
use Rattle.var_log.proofs.laws.bodies_read_back.Goals as goal

pub returns : goal.returns
returns c = read_body
