use Rattle.dev_claims.proofs.UnitLaws.{claim_holds}
use Rattle.dev_claims.proofs.laws.a_claim_opens_a_unit.Goals as goal

pub returns : goal.returns
returns c = claim_holds
