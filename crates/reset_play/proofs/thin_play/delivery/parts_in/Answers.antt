use Rattle.std.proofs.Common.{arith, sym, ap, Err}
use Rattle.cu_base.specs.Bytes.{IsBytes}
use Rattle.delivery_formats.proofs.FormatLemmas.{parts_seen}
use Rattle.image_parts.specs.declared.fault.PartRefusal.{PartRefusal}
use Rattle.image_parts.specs.Values as values
use Rattle.reset_play.proofs.VerdictLemmas.{refused_none}
use Rattle.reset_play.proofs.thin_play.delivery.parts_in.Goals as goal

pub returns-in-Ok : goal.returns-in-Ok
returns-in-Ok c =
    let is : IsBytes c.args.image.now = λ i. omega (arith, c.type_inv.image i) in
    sym (parts_seen c.args.image.now 0 (values.parts_seen c.in-Ok.parts) is c.in-Ok.ensures.ok)

pub returns-in-Err : goal.returns-in-Err
returns-in-Err c =
    let is : IsBytes c.args.image.now = λ i. omega (arith, c.type_inv.image i) in
    refused_none c.args.image.now c.in-Err.field-0 is c.in-Err.ensures.refused
    (λ e. c.in-Err.ensures.memory (ap (λ (x : PartRefusal). Err x) e))
