use Rattle.std.proofs.Common.{sym, arith}
use Rattle.var_log.proofs.Spelled.{one_less}
use Rattle.store_tests.proofs.sizes.body_len.Goals as goal

pub loop-change-preserved : goal.loop-change-preserved
loop-change-preserved c =
    let less = one_less c.args.changes.now c.loop-change.change-index c.change-item.result
    c.loop-change-test.true (sym c.change-item.is) in (
      omega (arith, less, c.in_ok-len.ensures.value, c.loop-change.invariant.0),
      omega (arith, c.if-body-gt-MAX_BODY.false),
    )
