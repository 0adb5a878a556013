use Rattle.std.proofs.Common.{◌≡◌, ◌≤◌, length, drop}
use Rattle.recipe_files.proofs.IndexLemmas.{Finds}
use Rattle.recipe_files.proofs.index.index_of.Given as goal

abbrev pub invariant-loop-k : goal.invariant-loop-k
invariant-loop-k l = record {
  same : l.pairs ≡ l.loaded.items;
  within : l.k ≤ length l.loaded.items;
  finds : Finds l.index (drop l.k l.loaded.items);
}

abbrev pub decreases-loop-k : goal.decreases-loop-k
decreases-loop-k l = l.k
