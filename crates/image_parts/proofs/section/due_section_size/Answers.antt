use Rattle.std.proofs.Common.{arith}
use Rattle.image_parts.proofs.Places.{fault_within}
use Rattle.image_parts.proofs.section.due_section_size.Goals as goal

pub overflow_add-result : goal.overflow_add-result
overflow_add-result c =
    let within = fault_within c.args.rest.now c.in-Err-Dep.field-0 c.in-Err-Dep.fault
    c.in-Err-Dep.ensures.refused c.in-Err-Dep.field-0-is in
    omega (arith, within, c.requires)
