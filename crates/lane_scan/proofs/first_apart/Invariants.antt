use Rattle.std.proofs.Common.{◌≡◌, ◌+◌, ◌-◌, ◌≤◌, ◌==◌, length}
use Rattle.std.specs.List.{common_prefix_len}
use Rattle.lane_scan.proofs.Runs.{apart_at}
use Rattle.lane_scan.proofs.first_apart.Given as goal

abbrev pub invariant-loop-at : goal.invariant-loop-at
invariant-loop-at l = record {
  so_far : common_prefix_len (λ x y. x == y) l.a l.b ≡ l.at + apart_at l.a l.b l.at;
  within : l.at ≤ l.end;
  in_a : l.end ≤ length l.a;
  in_b : l.end ≤ length l.b;
}

abbrev pub decreases-loop-at : goal.decreases-loop-at
decreases-loop-at l = l.end - l.at
