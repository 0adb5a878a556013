use Rattle.std.proofs.Common.{◌≡◌, ◌≤◌, ◌-◌, length}
use Rattle.scan_tests.proofs.scans.scanned.Given as goal

abbrev pub invariant-loop-at : goal.invariant-loop-at
invariant-loop-at l = record {
  came : l.scan.came ≡ l.at;
  size : l.scan.size ≡ length l.image;
  within : l.at ≤ length l.image;
}

abbrev pub decreases-loop-at : goal.decreases-loop-at
decreases-loop-at l = length l.image - l.at
