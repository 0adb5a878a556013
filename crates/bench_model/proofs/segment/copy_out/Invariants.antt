use Rattle.std.proofs.Common.{◌≡◌, length, take}
use Rattle.bench_model.specs.Memory.{IsShown}
use Rattle.bench_model.proofs.segment.copy_out.Given as goal

abbrev pub invariant-loop-layer : goal.invariant-loop-layer
invariant-loop-layer l = record {
  size : length l.out ≡ length l.initial.out;
  shown : IsShown (take l.layer-index l.segments) l.at l.out;
}
