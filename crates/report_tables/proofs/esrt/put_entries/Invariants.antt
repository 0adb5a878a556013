use Rattle.std.proofs.Common.{◌≡◌, ◌++◌, flat_map, drop}
use Rattle.report_tables.specs.Esrt.{entry_bytes}
use Rattle.report_tables.proofs.esrt.put_entries.Given as goal

-- what was written, and the layouts of what is left, are the whole
abbrev pub invariant-loop-entry : goal.invariant-loop-entry
invariant-loop-entry l =
    l.out ++ flat_map entry_bytes (drop l.entry-index l.entries)
    ≡ l.fn.out ++ flat_map entry_bytes l.entries
