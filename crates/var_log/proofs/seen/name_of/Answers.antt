use Rattle.var_log.proofs.ReadLemmas.{name_is_text}
use Rattle.var_log.proofs.seen.name_of.Goals as goal

pub returns-in-Err : goal.returns-in-Err
returns-in-Err c = λ is. c.in-Err.ensures.cases.0 (name_is_text c.args.bytes.now is)
