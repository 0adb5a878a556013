use Rattle.std.proofs.Common.{arith}
use Rattle.std.proofs.lemmas.Grind.{common_steps}
use Rattle.capsule_grammar.proofs.parts.check_one_offset.Goals as goal

pub returns-else-k-gt0-clause-refused : goal.returns-else-k-gt0-clause-refused
returns-else-k-gt0-clause-refused c = λ body here before list size.
    rw (here, list, size) (grind (arith, common_steps, before))

pub returns-clause-refused : goal.returns-clause-refused
returns-clause-refused c = λ body here before list size.
    rw (here, list, size) (grind (arith, common_steps, before))
