use Rattle.std.proofs.Common.{◌≡◌, ◌++◌, map}
use Rattle.std.specs.List.{concat, range_with_len}
use Rattle.capsule_grammar.specs.Refusals.{item}
use Rattle.capsule_show.specs.Lines.{driver_lines}
use Rattle.capsule_show.proofs.fmp.push_drivers.Given as goal

abbrev pub invariant-loop-k : goal.invariant-loop-k
invariant-loop-k l =
    l.out ≡ l.initial.out ++ concat (driver_lines 0 (map (item l.body) (range_with_len 0 l.k)))
