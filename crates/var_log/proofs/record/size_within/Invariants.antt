use Rattle.std.proofs.Common.{◌≡◌, ◌+◌, ◌≤◌, length, take, drop, All, IsTrue}
use Rattle.std.specs.List.{flat_map}
use Rattle.var_log.specs.Changes.{has_sizes}
use Rattle.var_log.specs.Records.{body_of, change_bytes}
use Rattle.var_log.proofs.record.size_within.Given as goal

abbrev pub invariant-loop-change : goal.invariant-loop-change
invariant-loop-change l =
    (l.body + length (flat_map change_bytes (drop l.change-index l.changes))
    ≡ length (body_of l.changes))
    × All (λ c. IsTrue (has_sizes c)) (take l.change-index l.changes)
    × (l.body ≤ l.most + 2)
