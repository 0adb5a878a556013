use Rattle.std.proofs.Common.{◌-◌, ℕ, length, take, drop, replicate, arith}
use Rattle.stored_vars.proofs.RecordLemmas.{name_put, zeros_left}
use Rattle.stored_vars.proofs.record.put_name.Goals as goal

pub returns : goal.returns
returns c =
    let name = c.args.name.now in
    let n = length name in
    name_put c.args.bytes.now c.put.new.buffer c.put-2.new.buffer c.put-3.new.buffer name
    (take (48 - n) (drop n (replicate {A = ℕ} 48 0))) _ (omega arith) c.put.ensures
    c.put-2.ensures c.put-3.ensures (zeros_left n)
