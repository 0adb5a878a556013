use Rattle.std.proofs.Common.{◌≡◌, drop}
use Rattle.std.specs.List.{list_all}
use Rattle.report_tables.specs.Units.{text_at_front}
use Rattle.report_tables.proofs.UnitLemmas.{is_ascii_unit}
use Rattle.report_tables.proofs.units.are_ascii.Given as goal

-- the text is ASCII where what is left of it is
abbrev pub invariant-loop-k : goal.invariant-loop-k
invariant-loop-k l =
    list_all is_ascii_unit (text_at_front l.bytes)
    ≡ list_all is_ascii_unit (drop l.k (text_at_front l.bytes))
