use Rattle.std.proofs.Common.{◌-◌, ◌≤◌}
use Rattle.bench_model.specs.Memory.{IsThereTo}
use Rattle.bench_model.proofs.segment.are_there.Given as goal

abbrev pub invariant-loop-to : goal.invariant-loop-to
invariant-loop-to l = record {
  bound : l.at ≤ l.to;
  there : IsThereTo l.segments l.at l.to;
}

abbrev pub decreases-loop-to : goal.decreases-loop-to
decreases-loop-to l = l.end - l.to
