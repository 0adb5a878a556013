use Rattle.std.proofs.Common.{arith}
use Rattle.cu_base.specs.Bytes.{IsBytes}
use Rattle.stored_vars.proofs.RecordLaws.{record_width}
use Rattle.dev_claims.proofs.reading.has_claim.Goals as goal

pub returns-clause-wide : goal.returns-clause-wide
returns-clause-wide c d r read =
    let is : IsBytes c.args.bytes.now = λ i. omega (arith, c.type_inv.bytes i) in
    record_width d c.args.bytes.now r is read
