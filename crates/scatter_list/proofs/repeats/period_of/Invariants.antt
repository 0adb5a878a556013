use Rattle.std.proofs.Common.{◌≡◌, ◌+◌}
use Rattle.scatter_list.specs.Going.{NoReturn}
use Rattle.scatter_list.specs.Walk.{next, steps_on}
use Rattle.scatter_list.proofs.repeats.period_of.Given as goal

-- so many steps lead here, and none of them to the beginning
abbrev pub invariant-loop-n : goal.invariant-loop-n
invariant-loop-n g l = record {
  so_far : l.at ≡ steps_on (next (g.M.PhysMem.segments l.memory)) l.from l.n;
  none : NoReturn (next (g.M.PhysMem.segments l.memory)) l.from l.n;
  count : l.steps ≡ l.initial.steps + l.n;
}
