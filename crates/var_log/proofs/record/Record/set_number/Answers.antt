use Rattle.std.proofs.Common.{arith}
use Rattle.var_log.proofs.Spelled.{renumbered, put_back, size_of_record}
use Rattle.var_log.proofs.record.Record.set_number.Goals as goal

pub invariant_of-self : goal.invariant_of-self
invariant_of-self c =
    let items = c.self.inside.bytes.items in
    (renumbered items _ c.args.number c.self.invariant (omega arith)
    (put_back c.self.inside.bytes.len c.args.number c.deref_mut.result.now items
    c.put_number.new.bytes c.deref_mut.ensures.value c.deref_mut.ensures.len
    (omega (arith, size_of_record items c.self.invariant)) c.put_number.ensures.value)).0
