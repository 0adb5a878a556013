use Rattle.std.proofs.Common.{◌≡◌, ◌++◌, drop, filter, nat_lt}
use Rattle.dev_claims.proofs.closing.push_above.Given as goal

-- the entries so far and those of what is left are those of all, behind those that were there
abbrev pub invariant-loop-entry : goal.invariant-loop-entry
invariant-loop-entry l =
    l.made.items ++ filter (λ e. nat_lt l.serial e.serial) (drop l.entry-index l.entries)
    ≡ l.initial.made.items ++ filter (λ e. nat_lt l.serial e.serial) l.entries
