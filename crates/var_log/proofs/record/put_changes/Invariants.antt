use Rattle.std.proofs.Common.{◌≡◌, ◌++◌, take, All, IsTrue}
use Rattle.std.specs.List.{flat_map}
use Rattle.var_log.specs.Changes.{has_sizes}
use Rattle.var_log.specs.Records.{change_bytes}
use Rattle.var_log.proofs.record.put_changes.Given as goal

abbrev pub invariant-loop-change : goal.invariant-loop-change
invariant-loop-change l =
    (l.out.items ≡ l.fn.out.items ++ flat_map change_bytes (take l.change-index l.changes))
    × All (λ c. IsTrue (has_sizes c)) (take l.change-index l.changes)
