use Rattle.std.proofs.Common.{sym, arith}
use Rattle.var_log.proofs.Spelled.{one_less}
use Rattle.var_log.proofs.record.body_len.Goals as goal

pub overflow_add-len : goal.overflow_add-len
overflow_add-len c =
    let less = one_less c.args.changes.now c.loop-change.change-index c.change-item.result
    c.loop-change-test.true (sym c.change-item.is) in
    omega (arith, less, c.change_len-len.ensures.value, c.loop-change.invariant, c.requires.size)
