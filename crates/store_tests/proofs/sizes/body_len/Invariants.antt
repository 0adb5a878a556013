use Rattle.std.proofs.Common.{◌≡◌, ◌≤◌, ◌+◌, length, drop}
use Rattle.std.specs.List.{flat_map}
use Rattle.var_log.specs.Records.{body_of, change_bytes}
use Rattle.store_tests.specs.declared.sizes.TheConstants.{MAX_BODY}
use Rattle.store_tests.proofs.sizes.body_len.Given as goal

abbrev pub invariant-loop-change : goal.invariant-loop-change
invariant-loop-change l =
    (l.body + length (flat_map change_bytes (drop l.change-index l.changes)) ≡ length (body_of l.changes))
    × (l.body ≤ MAX_BODY)
