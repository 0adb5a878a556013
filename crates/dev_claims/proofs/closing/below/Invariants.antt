use Rattle.std.proofs.Common.{◌≡◌, ◌++◌, drop, filter, nat_lt}
use Rattle.dev_claims.proofs.closing.below.Given as goal

-- the entries so far and those of what is left are those of all
abbrev pub invariant-loop-entry : goal.invariant-loop-entry
invariant-loop-entry l =
    l.made.items ++ filter (λ e. nat_lt e.serial l.serial) (drop l.entry-index l.entries)
    ≡ filter (λ e. nat_lt e.serial l.serial) l.entries
