use Rattle.capsule_show.proofs.OneText.{one_text}
use Rattle.capsule_show.proofs.laws.one_text.Goals as goal

pub returns : goal.returns
returns c = one_text
