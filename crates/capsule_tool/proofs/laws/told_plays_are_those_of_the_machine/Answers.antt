use Rattle.capsule_tool.proofs.PlainLaws.{play_told}
use Rattle.capsule_tool.proofs.laws.told_plays_are_those_of_the_machine.Goals as goal

pub returns : goal.returns
returns c = play_told
