use Rattle.std.proofs.Common.{◌≡◌, ◌≤◌, None, take}
use Rattle.bench_model.specs.Memory.{byte_at, IsThereTo}
use Rattle.bench_model.proofs.segment.end_from.Given as goal

abbrev pub invariant-loop-segment : goal.invariant-loop-segment
invariant-loop-segment l = record {
  bound : l.at ≤ l.end;
  there : IsThereTo (take l.segment-index l.segments) l.at l.end;
  lacking : l.end ≡ l.at → byte_at (take l.segment-index l.segments) l.at ≡ None;
}
