use Rattle.std.proofs.Common.{◌≡◌, ◌+◌, length, drop}
use Rattle.std.specs.List.{flat_map}
use Rattle.var_log.specs.Records.{change_bytes, body_of}
use Rattle.var_log.proofs.record.body_len.Given as goal

abbrev pub invariant-loop-change : goal.invariant-loop-change
invariant-loop-change l =
    l.len + length (flat_map change_bytes (drop l.change-index l.changes))
    ≡ length (body_of l.changes)
