use Rattle.std.proofs.Common.{◌≡◌, ◌+◌, ◌≤◌, length, take}
use Rattle.std.specs.List.{concat}
use Rattle.capsule_grammar.specs.Rebuilt.{kept_items}
use Rattle.capsule_grammar.specs.Refusals.{bound, list_end}
use Rattle.capsule_grammar.proofs.rebuilding.kept_size.Given as goal

abbrev pub invariant-loop-k : goal.invariant-loop-k
invariant-loop-k l = record {
  within : l.size ≤ bound l.body l.k;
  so_far : l.size ≡ list_end l.body + length (concat (take l.k (kept_items l.body)));
}
