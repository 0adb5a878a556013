use Rattle.std.proofs.Common.{◌≡◌, take}
use Rattle.dep_code.specs.Operations.{section_bytes}
use Rattle.dep_code.specs.Sections.{ops_of}
use Rattle.dep_code.proofs.writing.write_all.Given as goal

abbrev pub invariant-loop-item : goal.invariant-loop-item
invariant-loop-item l = l.out ≡ section_bytes (take l.item-index (ops_of l.ops))
