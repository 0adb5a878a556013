use Rattle.std.proofs.Common.{◌-◌, length, map}
use Rattle.var_log.specs.Seen.{as_change}
use Rattle.var_log.proofs.ScanLemmas.{Reading}
use Rattle.var_log.proofs.scanning.scan.Given as goal

abbrev pub invariant-loop-changes : goal.invariant-loop-changes
invariant-loop-changes l = Reading l.format l.bytes (map as_change l.changes.items) l.taken l.last

abbrev pub decreases-loop-changes : goal.decreases-loop-changes
decreases-loop-changes l = length l.bytes - l.taken
