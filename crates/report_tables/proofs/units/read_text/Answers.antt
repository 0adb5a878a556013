use Rattle.std.proofs.Common.{length, ap, sym, ◌∙◌, arith}
use Rattle.report_tables.proofs.UnitLemmas.{ended}
use Rattle.report_tables.proofs.units.read_text.Goals as goal

pub returns-clause-size : goal.returns-clause-size
returns-clause-size c =
    let is = ended c.args.bytes.now c.in-Some.count
    (sym c.units_before_zero.ensures.value ∙ c.in-Some.is) in
    omega (arith, is.room, is.count, ap length c.in_ok-ascii_text.ensures.value)
