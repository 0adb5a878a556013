use Rattle.capsule_tool.proofs.PlainLaws.{one_told}
use Rattle.capsule_tool.proofs.laws.told_refusals_are_verdicts.Goals as goal

pub returns : goal.returns
returns c = one_told
