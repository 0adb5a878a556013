use Rattle.std.proofs.Common.{◌≡◌, take}
use Rattle.report_tables.specs.Units.{text_at_front}
use Rattle.report_tables.proofs.units.ascii_text.Given as goal

-- the characters so far
abbrev pub invariant-loop-k : goal.invariant-loop-k
invariant-loop-k l = l.ascii ≡ take l.k (text_at_front l.bytes)
