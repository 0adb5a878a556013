use Rattle.std.proofs.Common.{◌≡◌, ◌+◌, ◌*◌, map}
use Rattle.std.specs.List.{range_with_len}
use Rattle.report_tables.specs.Esrt.{entry_at}
use Rattle.report_tables.proofs.esrt.read_entries.Given as goal

-- the entries so far
abbrev pub invariant-loop-k : goal.invariant-loop-k
invariant-loop-k l =
    l.entries.items ≡ map (λ k. entry_at l.bytes (16 + 40 * k)) (range_with_len 0 l.k)
