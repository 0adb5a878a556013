use Rattle.std.proofs.Common.{◌≡◌, ◌+◌, ◌-◌, ◌≤◌, ◌==◌, length}
use Rattle.std.specs.List.{prefix_len}
use Rattle.lane_scan.proofs.Runs.{unlike_at}
use Rattle.lane_scan.proofs.first_unlike.Given as goal

abbrev pub invariant-loop-at : goal.invariant-loop-at
invariant-loop-at l = record {
  so_far : prefix_len (λ b. b == l.like) l.bytes ≡ l.at + unlike_at l.like l.bytes l.at;
  within : l.at ≤ length l.bytes;
}

abbrev pub decreases-loop-at : goal.decreases-loop-at
decreases-loop-at l = length l.bytes - l.at
