use Rattle.std.proofs.Common.{◌≡◌, ◌/◌, length}
use Rattle.stored_vars.specs.Progress.{are_rising, entries_at, entry_at}
use Rattle.stored_vars.proofs.ProgressLemmas.{left}
use Rattle.stored_vars.proofs.progress.are_rising.Given as goal

-- the serials rise where those of what is left do
abbrev pub invariant-loop-k : goal.invariant-loop-k
invariant-loop-k l =
    are_rising (entries_at l.bytes)
    ≡ are_rising (left (entry_at l.bytes) l.k (length l.bytes / 12))
