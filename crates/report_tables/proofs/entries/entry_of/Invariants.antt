use Rattle.std.proofs.Common.{◌≡◌, drop}
use Rattle.std.specs.List.{filter, zip}
use Rattle.report_tables.specs.Entries.{entry_of, entry_with, is_same_type}
use Rattle.report_tables.proofs.entries.entry_of.Given as goal

-- the entry so far with the devices of its type that are left is the whole one
abbrev pub invariant-loop-k : goal.invariant-loop-k
invariant-loop-k l =
    entry_with l.entry
    (filter (is_same_type (l.first, l.state)) (zip (drop l.k l.rest) (drop l.k l.states)))
    ≡ entry_of (l.first, l.state) (zip l.rest l.states)
