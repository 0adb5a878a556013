use Rattle.std.proofs.Common.{◌≡◌, ◌+◌}
use Rattle.scatter_list.specs.Walk.{next, steps_on}
use Rattle.scatter_list.proofs.repeats.address_after.Given as goal

abbrev pub invariant-loop-n : goal.invariant-loop-n
invariant-loop-n g l = record {
  so_far : l.at ≡ steps_on (next (g.M.PhysMem.segments l.memory)) l.from l._n;
  count : l.steps ≡ l.initial.steps + l._n;
}
