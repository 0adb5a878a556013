use Rattle.std.proofs.Common.{◌≡◌, take}
use Rattle.var_log.specs.Seen.{last_changes}
use Rattle.var_log.proofs.settling.last_of_each.Given as goal

abbrev pub invariant-loop-seen : goal.invariant-loop-seen
invariant-loop-seen l = l.map.entries ≡ last_changes (take l.seen-index l.changes)
