use Rattle.capsule_tool.proofs.ShowLaws.{shown_is}
use Rattle.capsule_tool.proofs.laws.shown_text_is_the_text.Goals as goal

pub returns : goal.returns
returns c = shown_is
