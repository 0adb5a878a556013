use Rattle.std.proofs.Common.{◌≡◌, ◌*◌, length, drop, option_map}
use Rattle.report_tables.specs.Units.{units_at_front}
use Rattle.report_tables.proofs.UnitLemmas.{count_from}
use Rattle.report_tables.proofs.units.units_before_zero.Given as goal

-- the units before the first zero are those that were passed and those of what is left
abbrev pub invariant-loop-k : goal.invariant-loop-k
invariant-loop-k l =
    option_map length (units_at_front l.bytes)
    ≡ count_from l.k (units_at_front (drop (2 * l.k) l.bytes))
