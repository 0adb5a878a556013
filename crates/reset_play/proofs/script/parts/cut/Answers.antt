use Rattle.std.proofs.Common.{arith}
use Rattle.reset_play.proofs.ScriptLemmas.{parts_at, parts_none}
use Rattle.reset_play.proofs.script.parts.cut.Goals as goal

pub returns-then-at-text-clause-parts : goal.returns-then-at-text-clause-parts
returns-then-at-text-clause-parts c =
    parts_at c.args.mark c.args.text.now c.length_before-at.result c.length_before-at.ensures
    (omega arith)

pub returns-else-at-text-clause-parts : goal.returns-else-at-text-clause-parts
returns-else-at-text-clause-parts c =
    parts_none c.args.mark c.args.text.now c.length_before-at.result c.length_before-at.ensures
    (omega arith)
