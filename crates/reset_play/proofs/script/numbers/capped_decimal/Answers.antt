use Rattle.std.proofs.Common.{◌∙◌, arith}
use Rattle.reset_play.proofs.ScriptLemmas.{capped_more}
use Rattle.reset_play.proofs.script.numbers.capped_decimal.Goals as goal

pub loop-digit-preserved : goal.loop-digit-preserved
loop-digit-preserved c = record {
  fits = omega arith;
  same = capped_more c.loop-digit.number c.min-number.result c.args.digits.now
      c.loop-digit.digit-index (omega arith) (omega arith) ∙ c.loop-digit.invariant.same;
}
