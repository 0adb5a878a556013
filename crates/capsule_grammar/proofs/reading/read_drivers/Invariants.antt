use Rattle.std.proofs.Common.{◌≡◌, map}
use Rattle.std.specs.List.{range_with_len}
use Rattle.capsule_grammar.specs.Refusals.{item}
use Rattle.capsule_grammar.proofs.reading.read_drivers.Given as goal

abbrev pub invariant-loop-k : goal.invariant-loop-k
invariant-loop-k l = l.list.items ≡ map (item l.body) (range_with_len 0 l.k)
