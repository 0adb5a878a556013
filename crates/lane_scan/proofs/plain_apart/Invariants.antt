use Rattle.std.proofs.Common.{◌≡◌, ◌+◌, ◌-◌, ◌≤◌, ◌==◌, length, drop}
use Rattle.std.specs.List.{common_prefix_len}
use Rattle.lane_scan.proofs.plain_apart.Given as goal

abbrev pub invariant-loop-at : goal.invariant-loop-at
invariant-loop-at l = record {
  so_far : common_prefix_len (λ x y. x == y) l.a l.b
      ≡ l.at + common_prefix_len (λ x y. x == y) (drop l.at l.a) (drop l.at l.b);
  within_a : l.at ≤ length l.a;
  within_b : l.at ≤ length l.b;
}

abbrev pub decreases-loop-at : goal.decreases-loop-at
decreases-loop-at l = length l.a - l.at
