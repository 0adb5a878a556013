use Rattle.std.proofs.Common.{[]}
use Rattle.dep_code.proofs.Types.{no_truth}
use Rattle.dep_code.proofs.typing.is_one_truth.Goals as goal

pub returns-then-not-take : goal.returns-then-not-take
returns-then-not-take c = no_truth c.args.stack (c.if-not-take.ensures [])
