use Rattle.std.proofs.Common.{◌≡◌, ◌≤◌, ◌-◌, length}
use Rattle.feed_tests.proofs.feeds.fed.Given as goal

abbrev pub invariant-loop-at : goal.invariant-loop-at
invariant-loop-at l = record {
  came : l.feed.came ≡ l.at;
  total : l.feed.total ≡ length l.whole;
  within : l.at ≤ length l.whole;
}

abbrev pub decreases-loop-at : goal.decreases-loop-at
decreases-loop-at l = length l.whole - l.at
