use Rattle.capsule_tool.proofs.PlainLaws.{three_told}
use Rattle.capsule_tool.proofs.laws.told_faults_are_those_of_texts.Goals as goal

pub returns : goal.returns
returns c = three_told
