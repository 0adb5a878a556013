use Rattle.update_inbox.proofs.RequestLaws.{signal_holds}
use Rattle.update_inbox.proofs.laws.a_signal_asks_for_files.Goals as goal

pub returns : goal.returns
returns c = signal_holds
