use Rattle.capsule_tool.proofs.VerdictLaws.{size_read, verdict_trailing, verdict_whole}
use Rattle.capsule_tool.proofs.scan.verdict.Goals as goal

pub returns-in-Ok-found : goal.returns-in-Ok-found
returns-in-Ok-found c = λ file is.
    let none = c.in-Ok.ensures.refused file is.header is.long in
    verdict_trailing file c.in-Ok.header.image_size c.args.size none
    (rw c.in-Ok-found.is at (is.body none))
    (size_read file c.in-Ok.header c.args.read is.header c.in-Ok.ensures.ok) is.long
    c.if-header-size.true

pub returns-in-Ok-2 : goal.returns-in-Ok-2
returns-in-Ok-2 c = λ file is.
    let none = c.in-Ok.ensures.refused file is.header is.long in
    verdict_whole file c.in-Ok.header.image_size c.args.size none
    (rw c.in-Ok-2.is at (is.body none))
    (size_read file c.in-Ok.header c.args.read is.header c.in-Ok.ensures.ok) is.long
    c.if-header-size.false
