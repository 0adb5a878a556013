use Rattle.std.proofs.Common.{arith}
use Rattle.cu_base.specs.Bytes.{IsBytes}
use Rattle.image_parts.proofs.Found.{found_only, found_parts}
use Rattle.image_parts.proofs.splitting.split.Goals as goal

pub returns-clause-ok : goal.returns-clause-ok
returns-clause-ok c =
    let is : IsBytes c.args.image.now = λ i. omega (arith, c.type_inv.image i) in
    found_parts c.args.image.now c.args.support c.cut.result is c.cut.ensures.ok

pub returns-clause-only : goal.returns-clause-only
returns-clause-only c = found_only c.args.image.now c.args.support c.cut.result c.cut.ensures.ok
    c.cut.ensures.refused
