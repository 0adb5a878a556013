use Rattle.update_inbox.proofs.RequestLaws.{stage_holds}
use Rattle.update_inbox.proofs.laws.a_delivery_is_staged.Goals as goal

pub returns : goal.returns
returns c = stage_holds
