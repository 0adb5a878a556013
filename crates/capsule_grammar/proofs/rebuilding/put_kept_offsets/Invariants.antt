use Rattle.std.proofs.Common.{◌≡◌, ◌+◌, ◌≤◌, ◌++◌, length, take}
use Rattle.std.specs.List.{concat, flat_map}
use Rattle.cu_base.specs.Fields.{bytes_of}
use Rattle.capsule_grammar.specs.Spelling.{offsets}
use Rattle.capsule_grammar.specs.Rebuilt.{kept_items}
use Rattle.capsule_grammar.specs.Refusals.{bound, list_end}
use Rattle.capsule_grammar.proofs.rebuilding.put_kept_offsets.Given as goal

abbrev pub invariant-loop-k : goal.invariant-loop-k
invariant-loop-k l = record {
  within : l.here ≤ bound l.body l.k;
  here : l.here ≡ list_end l.body + length (concat (take l.k (kept_items l.body)));
  so_far : l.out ≡ l.initial.out
      ++ flat_map (bytes_of 8) (offsets (list_end l.body) (take l.k (kept_items l.body)));
}
