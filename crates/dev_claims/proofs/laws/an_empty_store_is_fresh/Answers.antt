use Rattle.dev_claims.proofs.Fresh.{empty_is_fresh}
use Rattle.dev_claims.proofs.laws.an_empty_store_is_fresh.Goals as goal

pub returns : goal.returns
returns c = empty_is_fresh
