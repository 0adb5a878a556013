use Rattle.std.proofs.Common.{sym}
use Rattle.dep_code.proofs.Evaluated.{unknown, answer_is}
use Rattle.dep_code.proofs.evaluation.answer_of.Goals as goal

pub returns-then-not-knows_all : goal.returns-then-not-knows_all
returns-then-not-knows_all c = unknown c.args.versions.now c.args.ops.now c.requires
    (sym c.if-not-knows_all.ensures)

pub returns : goal.returns
returns c =
    answer_is c.args.versions.now c.args.ops.now c.compute.result
    (sym c.if-not-knows_all.ensures) c.compute.ensures
