use Rattle.std.proofs.Common.{arith, subst, sym}
use Rattle.capsule_grammar.specs.BackToBack.{IsRefusalOfAll}
use Rattle.capsule_grammar.specs.declared.faults.DecodeFault.{DecodeFault}
use Rattle.cu_base.specs.Bytes.{IsBytes}
use Rattle.delivery_formats.proofs.FormatLemmas.{capsules_seen, no_capsules_seen}
use Rattle.cap_boot.proofs.decoding.capsules_in.Goals as goal

pub returns-in-Ok-clause-value : goal.returns-in-Ok-clause-value
returns-in-Ok-clause-value c =
    let is : IsBytes c.args.bytes.now = λ i. omega (arith, c.type_inv.bytes i) in
    sym (capsules_seen c.args.bytes.now c.in-Ok.capsules.items is c.in-Ok.ensures.ok)

pub returns-in-Err-Refused-clause-value : goal.returns-in-Err-Refused-clause-value
returns-in-Err-Refused-clause-value c =
    let is : IsBytes c.args.bytes.now = λ i. omega (arith, c.type_inv.bytes i) in
    let r = c.in-Err-Refused.field-0-0 in
    let refused = subst (λ (e : DecodeFault). IsRefusalOfAll e c.args.bytes.now)
    c.in-Err-Refused.field-0-is c.in-Err-Refused.ensures.refused in
    sym ((no_capsules_seen c.args.bytes.now is).1 (r.at, r.why, refused))
