use Rattle.std.proofs.Common.{◌≡◌, map}
use Rattle.std.specs.List.{range_with_len}
use Rattle.stored_vars.specs.Progress.{entry_at}
use Rattle.stored_vars.proofs.progress.entries_at.Given as goal

-- the entries so far
abbrev pub invariant-loop-k : goal.invariant-loop-k
invariant-loop-k l = l.entries.items ≡ map (entry_at l.bytes) (range_with_len 0 l.k)
