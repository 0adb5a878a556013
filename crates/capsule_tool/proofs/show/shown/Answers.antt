use Rattle.std.proofs.Common.{ℕ, List, ◌∙◌, ap, arith}
use Rattle.cu_base.specs.Bytes.{IsBytes}
use Rattle.capsule_tool.specs.Files.{written}
use Rattle.capsule_tool.proofs.ShowLaws.{only_shown}
use Rattle.capsule_tool.proofs.show.shown.Goals as goal

pub returns-in-Ok : goal.returns-in-Ok
returns-in-Ok c =
    let bytes = c.args.bytes.now in
    let is : IsBytes bytes = λ i. omega (arith, c.type_inv.bytes i) in
    ap written (c.bytes.ensures ∙ only_shown bytes _ is c.in-Ok.ensures.ok)
