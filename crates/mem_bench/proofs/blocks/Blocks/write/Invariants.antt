use Rattle.std.proofs.Common.{length, ◌-◌, ◌≡◌, ◌+◌, ◌≤◌, ℕ, take}
use Rattle.mem_bench.specs.Blocks.{seen}
use Rattle.mem_bench.specs.Regions.{written}
use Rattle.mem_bench.proofs.blocks.Blocks.write.Given as goal

abbrev pub invariant-loop-done : goal.invariant-loop-done
invariant-loop-done l = record {
  within : l.done ≤ length l.bytes;
  long : length l.self.table.items ≡ length l.initial.self.table.items;
  so_far : (size : ℕ) → l.at + length l.bytes ≤ size
      → seen size l.self ≡ written l.at (take l.done l.bytes) (seen size l.initial.self);
}

abbrev pub decreases-loop-done : goal.decreases-loop-done
decreases-loop-done l = length l.bytes - l.done
