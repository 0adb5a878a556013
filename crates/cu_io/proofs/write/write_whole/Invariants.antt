use Rattle.std.proofs.Common.{◌-◌, ◌≤◌, length, take}
use Rattle.std.specs.Io.KnownBytes.{Appends}
use Rattle.cu_io.proofs.write.write_whole.Given as goal

abbrev pub invariant-loop-done : goal.invariant-loop-done
invariant-loop-done g l = record {
  within : l.done ≤ length l.bytes;
  written : Appends (g.K.Sink.seen l.initial.sink).written (g.K.Sink.seen l.sink).written
      (take l.done l.bytes);
  later : (g.K.Sink.seen l.initial.sink).faults ≤ (g.K.Sink.seen l.sink).faults;
}

abbrev pub decreases-loop-done : goal.decreases-loop-done
decreases-loop-done g l = length l.bytes - l.done
