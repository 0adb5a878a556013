use Rattle.std.proofs.Common.{◌≡◌, ◌<◌, ◌≤◌, ℕ, length, get_or}
use Rattle.mem_bench.specs.Regions.{IsSettled, no_region}
use Rattle.mem_bench.proofs.reset.settle_all.Given as goal

abbrev pub invariant-loop-k : goal.invariant-loop-k
invariant-loop-k l = record {
  long : length l.regions.items ≡ length l.initial.regions.items;
  settled : (j : ℕ) → j < l.k → IsSettled l.cut (get_or l.initial.regions.items j no_region)
      (get_or l.regions.items j no_region);
  still : (j : ℕ) → l.k ≤ j → get_or l.regions.items j no_region
      ≡ get_or l.initial.regions.items j no_region;
}
