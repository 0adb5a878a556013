use Rattle.std.proofs.Common.{◌≡◌, ℕ, List, ◌++◌, ◌∙◌, sym, subst, arith, OnOk}
use Rattle.cu_base.specs.Bytes.{IsBytes}
use Rattle.fmp_headers.specs.declared.capsule.CapsuleHeader.{CapsuleHeader}
use Rattle.capsule_show.specs.Lines.{header_line}
use Rattle.capsule_show.proofs.Fronts.{header_read}
use Rattle.capsule_show.proofs.text.push_capsule.Goals as goal

pub returns : goal.returns
returns c =
    let bytes = c.args.bytes.now in
    let is : IsBytes bytes = λ i. omega (arith, c.type_inv.bytes i) in
    subst
    (λ (h : CapsuleHeader). OnOk c.push_header.result
    (c.push_header.new.out ≡ c.args.out.now ++ header_line h))
    (c.capsule_header.ensures ∙ sym (header_read bytes is c.requires)) c.push_header.ensures
