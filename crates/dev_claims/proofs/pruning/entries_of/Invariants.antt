use Rattle.std.proofs.Common.{◌≡◌, ◌++◌, drop}
use Rattle.dev_claims.specs.Batches.{entries_of}
use Rattle.dev_claims.proofs.pruning.entries_of.Given as goal

-- the entries so far and those of what is left are those of all
abbrev pub invariant-loop-entry : goal.invariant-loop-entry
invariant-loop-entry l =
    l.kept.items ++ entries_of (drop l.entry-index l.entries) l.serials
    ≡ entries_of l.entries l.serials
