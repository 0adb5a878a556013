use Rattle.std.proofs.Common.{◌≡◌, ◌++◌, take, drop}
use Rattle.std.specs.List.{zip}
use Rattle.report_tables.specs.Entries.{entries_of, entries_behind}
use Rattle.report_tables.proofs.entries.esrt_of.Given as goal

-- the entries so far, and those of the devices that are left, are the whole table
abbrev pub invariant-loop-k : goal.invariant-loop-k
invariant-loop-k l =
    l.entries.items
    ++ entries_behind (zip (take l.k l.devices) (take l.k l.states))
    (zip (drop l.k l.devices) (drop l.k l.states))
    ≡ entries_of l.board l.states
