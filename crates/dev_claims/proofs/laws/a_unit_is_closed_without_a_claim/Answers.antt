use Rattle.dev_claims.proofs.UnitLaws.{close_holds}
use Rattle.dev_claims.proofs.laws.a_unit_is_closed_without_a_claim.Goals as goal

pub returns : goal.returns
returns c = close_holds
