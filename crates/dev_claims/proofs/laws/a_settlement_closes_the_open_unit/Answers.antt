use Rattle.dev_claims.proofs.UnitLaws.{settle_holds}
use Rattle.dev_claims.proofs.laws.a_settlement_closes_the_open_unit.Goals as goal

pub returns : goal.returns
returns c = settle_holds
