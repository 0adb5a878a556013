use Rattle.std.proofs.Common.{◌≡◌, map}
use Rattle.std.specs.List.{flat_map}
use Rattle.std.specs.Map.Iter.{deref_pair}
use Rattle.var_log.specs.Seen.{set_in}
use Rattle.var_log.proofs.settling.settle.Given as goal

abbrev pub invariant-loop-key : goal.invariant-loop-key
invariant-loop-key l = l.live.items ≡ flat_map set_in (map deref_pair l.yielded)
