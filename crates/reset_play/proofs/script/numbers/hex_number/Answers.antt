use Rattle.std.proofs.Common.{lit<, arith}
use Rattle.std.proofs.Math.Nat.{pow-le-pow_right}
use Rattle.reset_play.proofs.ScriptLemmas.{sixteen_fit}
use Rattle.reset_play.proofs.script.numbers.hex_number.Goals as goal

pub overflow_mul-number : goal.overflow_mul-number
overflow_mul-number c = omega (arith, sixteen_fit c.loop-digit.digit-index (omega arith))

pub overflow_add-number : goal.overflow_add-number
overflow_add-number c = omega (arith, sixteen_fit c.loop-digit.digit-index (omega arith))

pub returns-clause-bound : goal.returns-clause-bound
returns-clause-bound c =
    omega (
      arith,
      c.loop-digit.invariant.fits,
      pow-le-pow_right {n = 16} (lit< tt) {i = c.loop-digit.digit-index} {j = c.args.most}
          (omega arith),
    )
