use Rattle.std.proofs.Common.{◌-◌, ◌≤◌}
use Rattle.cu_io.specs.Streams.{Passes}
use Rattle.cu_io.proofs.stream.Stream.pass.Given as goal

-- this many bytes came so far
abbrev pub invariant-loop-passed : goal.invariant-loop-passed
invariant-loop-passed g l = record {
  came : Passes l.passed l.fn.self l.self;
  within : l.passed ≤ l.n;
}

abbrev pub decreases-loop-passed : goal.decreases-loop-passed
decreases-loop-passed g l = l.n - l.passed
