use Rattle.std.proofs.Common.{◌∙◌, sym, arith}
use Rattle.report_tables.proofs.UnitLemmas.{count_here, count_step, count_gone}
use Rattle.report_tables.proofs.units.units_before_zero.Goals as goal

pub returns-then-u16_at-eq0 : goal.returns-then-u16_at-eq0
returns-then-u16_at-eq0 c = record {
  value = sym (c.loop-k.invariant ∙ count_here c.args.bytes.now c.loop-k.k
      (omega (arith, c.loop-k-test.true))
      (sym c.u16_at.ensures ∙ c.if-u16_at-eq0.true));
}

pub loop-k-preserved : goal.loop-k-preserved
loop-k-preserved c =
    c.loop-k.invariant ∙ count_step c.args.bytes.now c.loop-k.k
    (omega (arith, c.loop-k-test.true))
    (λ zero. c.if-u16_at-eq0.false (c.u16_at.ensures ∙ zero))

pub returns : goal.returns
returns c = record {
  value = sym (c.loop-k.invariant ∙ count_gone c.args.bytes.now c.loop-k.k
      (omega (arith, c.loop-k-test.false)));
}
