use Rattle.std.proofs.Common.{take}
use Rattle.dep_code.specs.Sections.{ops_of}
use Rattle.dep_code.proofs.Evaluated.{AreComputed}
use Rattle.dep_code.proofs.evaluation.compute.Given as goal

abbrev pub invariant-loop-item : goal.invariant-loop-item
invariant-loop-item l = AreComputed l.versions (take l.item-index (ops_of l.ops)) l.stack
