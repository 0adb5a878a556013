use Rattle.reset_play.proofs.ScriptSpelled.{script_back}
use Rattle.reset_play.proofs.script.laws.scripts_read_back.Goals as goal

pub returns : goal.returns
returns c = λ events fits few. script_back events fits few
