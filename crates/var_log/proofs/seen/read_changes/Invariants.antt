use Rattle.std.proofs.Common.{◌≡◌, ◌++◌, length, map, take, option_map}
use Rattle.var_log.specs.Records.{changes_from, changes_in}
use Rattle.var_log.specs.Seen.{as_change}
use Rattle.var_log.proofs.seen.read_changes.Given as goal

abbrev pub invariant-loop-left : goal.invariant-loop-left
invariant-loop-left l =
    (option_map (λ cs. map as_change l.fn.out.items ++ cs) (changes_in l.body)
    ≡ option_map (λ cs. map as_change l.out.items ++ cs) (changes_from l.left l.rest))
    × (take (length l.fn.out.items) l.out.items ≡ l.fn.out.items)

abbrev pub decreases-loop-left : goal.decreases-loop-left
decreases-loop-left l = l.left
