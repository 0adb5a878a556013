use Rattle.std.proofs.Common.{◌≡◌, [], take, Some}
use Rattle.dep_code.specs.Building.{entries_after, entries_seen}
use Rattle.dep_code.specs.Sections.{ops_of}
use Rattle.dep_code.proofs.building.build.Given as goal

abbrev pub invariant-loop-item : goal.invariant-loop-item
invariant-loop-item l = entries_after [] (take l.item-index (ops_of l.ops)) ≡ Some
    (entries_seen l.stack)
