use Rattle.std.proofs.Common.{◌≡◌, ◌/◌, ◌==◌, length, find}
use Rattle.stored_vars.specs.Progress.{entries_at, entry_at}
use Rattle.stored_vars.proofs.ProgressLemmas.{left}
use Rattle.stored_vars.proofs.progress.units_among.Given as goal

-- the first entry of the file is that among those that are left
abbrev pub invariant-loop-k : goal.invariant-loop-k
invariant-loop-k l =
    find (λ e. e.serial == l.serial) (entries_at l.bytes)
    ≡ find (λ e. e.serial == l.serial) (left (entry_at l.bytes) l.k (length l.bytes / 12))
