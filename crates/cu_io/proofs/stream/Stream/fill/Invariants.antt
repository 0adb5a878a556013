use Rattle.std.proofs.Common.{length, ◌-◌, ◌≡◌, ◌≤◌, take}
use Rattle.cu_io.specs.Streams.{Goes}
use Rattle.cu_io.proofs.stream.Stream.fill.Given as goal

-- what came so far stands at the front
abbrev pub invariant-loop-filled : goal.invariant-loop-filled
invariant-loop-filled g l = record {
  came : Goes (take l.filled l.out) l.fn.self l.self;
  within : l.filled ≤ length l.out;
  long : length l.out ≡ length l.fn.out;
}

abbrev pub decreases-loop-filled : goal.decreases-loop-filled
decreases-loop-filled g l = length l.initial.out - l.filled
