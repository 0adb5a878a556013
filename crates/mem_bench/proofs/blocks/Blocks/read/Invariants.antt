use Rattle.std.proofs.Common.{length, ◌-◌, ◌≡◌, ◌+◌, ◌≤◌, ℕ, take}
use Rattle.cu_base.specs.Fields.{field}
use Rattle.mem_bench.specs.Blocks.{seen}
use Rattle.mem_bench.proofs.blocks.Blocks.read.Given as goal

abbrev pub invariant-loop-done : goal.invariant-loop-done
invariant-loop-done l = record {
  within : l.done ≤ length l.out;
  so_far : (size : ℕ) → l.at + length l.out ≤ size
      → take l.done l.out ≡ field (seen size l.self).bytes l.at l.done;
}

abbrev pub decreases-loop-done : goal.decreases-loop-done
decreases-loop-done l = length l.initial.out - l.done
