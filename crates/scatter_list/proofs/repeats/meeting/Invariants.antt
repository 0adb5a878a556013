use Rattle.std.proofs.Common.{◌≡◌, ◌+◌, ◌*◌}
use Rattle.scatter_list.specs.Going.{NoMeeting}
use Rattle.scatter_list.specs.Walk.{next, steps_on}
use Rattle.scatter_list.proofs.repeats.meeting.Given as goal

-- the two places have gone so many steps, and did not meet before
abbrev pub invariant-loop-index : goal.invariant-loop-index
invariant-loop-index g l = record {
  slow : l.behind ≡ steps_on (next (g.M.PhysMem.segments l.memory)) l.root l._index;
  fast : l.ahead ≡ steps_on (next (g.M.PhysMem.segments l.memory)) l.root (l._index + l.period);
  none : NoMeeting (next (g.M.PhysMem.segments l.memory)) l.root l.period (l._index + l.period);
  count : l.steps ≡ l.fn.steps + l.period + 2 * l._index;
}
