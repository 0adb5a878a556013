use Rattle.std.proofs.Common.{◌≡◌, ◌++◌, take}
use Rattle.std.specs.List.{concat}
use Rattle.capsule_grammar.specs.Spelling.{item_bytes}
use Rattle.capsule_grammar.proofs.encoding.put_items.Given as goal

abbrev pub invariant-loop-k : goal.invariant-loop-k
invariant-loop-k l = l.out ≡ l.initial.out ++ concat (take l.k (item_bytes l.body))
