use Rattle.std.proofs.Common.{◌≡◌, ◌*◌}
use Rattle.measures.proofs.delivery.measure.Given as goal

abbrev pub invariant-loop-number : goal.invariant-loop-number
invariant-loop-number l = record {
  came : l.feed.came ≡ l.number * 65536;
  total : l.feed.total ≡ 67108864;
}
