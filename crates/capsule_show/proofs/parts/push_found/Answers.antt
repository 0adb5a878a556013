use Rattle.std.proofs.Common.{◌≡◌, ◌++◌, OnOk, rules, subst}
use Rattle.std.specs.List.{concat}
use Rattle.image_parts.specs.declared.fault.PartFault.{PartFault}
use Rattle.image_parts.specs.declared.fault.PartRefusal.{PartRefusal}
use Rattle.image_parts.specs.declared.fault.PartRefusal.TheVariants.{Part}
use Rattle.image_parts.specs.Refusals.{IsRefusalOf}
use Rattle.image_parts.specs.Values.{parts_seen}
use Rattle.capsule_show.specs.Images.{part_lines}
use Rattle.capsule_show.specs.Images.Found.{Cut, RefusedAt}
use Rattle.capsule_show.proofs.Growing.{found_told, on_ok}
use Rattle.capsule_show.proofs.parts.push_found.Goals as goal

pub returns-in-Ok : goal.returns-in-Ok
returns-in-Ok c = on_ok c.push_parts.result
    (found_told c.args.image.now c.args.support (Cut (parts_seen c.in-Ok.parts)) c.args.out.now _
    c.in-Ok.ensures.ok) c.push_parts.ensures

pub returns-in-Err-Part : goal.returns-in-Err-Part
returns-in-Err-Part c =
    let at = c.in-Err-Part.fault.at in
    let why = c.in-Err-Part.fault.why in
    let is : c.in-Err-Part.field-0 ≡ Part c.in-Err-Part.fault = search rules in
    on_ok c.push_refused.result
    (found_told c.args.image.now c.args.support (RefusedAt at why) c.args.out.now _
    (subst (λ (r : PartRefusal). IsRefusalOf r c.args.image.now c.args.support)
    is c.in-Err-Part.ensures.refused))
    (subst
    (λ (f : PartFault). OnOk c.push_refused.result
    (c.push_refused.new.out ≡ c.args.out.now ++ concat (part_lines (RefusedAt f.at f.why))))
    c.in-Err-Part.fault-is c.push_refused.ensures)
