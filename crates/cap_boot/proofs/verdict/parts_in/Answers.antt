use Rattle.std.proofs.Common.{rules, ◌≡◌, arith, sym}
use Rattle.cu_base.specs.Bytes.{IsBytes}
use Rattle.delivery_formats.proofs.FormatLemmas.{parts_seen}
use Rattle.image_parts.specs.Values as values
use Rattle.image_parts.specs.declared.fault.PartRefusal.TheVariants.{Part}
use Rattle.cap_boot.proofs.Refused.{no_parts}
use Rattle.cap_boot.proofs.verdict.parts_in.Goals as goal

pub returns-in-Ok : goal.returns-in-Ok
returns-in-Ok c =
    let is : IsBytes c.args.image.now = λ i. omega (arith, c.type_inv.image i) in
    sym (parts_seen c.args.image.now c.args.support (values.parts_seen c.in-Ok.parts) is
    c.in-Ok.ensures.ok)

pub returns-in-Err-Part : goal.returns-in-Err-Part
returns-in-Err-Part c =
    let is : IsBytes c.args.image.now = λ i. omega (arith, c.type_inv.image i) in
    let told : c.in-Err-Part.field-0 ≡ Part c.in-Err-Part.field-0-0 = search rules in
    no_parts c.args.image.now c.args.support c.in-Err-Part.field-0 c.in-Err-Part.field-0-0 is told
    c.in-Err-Part.ensures.refused
