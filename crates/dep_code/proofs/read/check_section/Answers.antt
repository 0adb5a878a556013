use Rattle.std.proofs.Common.{sym, ◌∙◌}
use Rattle.dep_code.specs.Sections.{ops_of}
use Rattle.dep_code.proofs.Wholes.{declared_is, rows_wrong, rows_types}
use Rattle.dep_code.proofs.read.check_section.Goals as goal

pub returns-then-not-is_declared : goal.returns-then-not-is_declared
returns-then-not-is_declared c =
    let items = c.args.ops.now in
    rw c.at.ensures
    (rows_wrong (ops_of items)
    (sym (declared_is items c.args.size c.requires.size) ∙ sym c.if-not-is_declared.ensures))

pub returns : goal.returns
returns c =
    let items = c.args.ops.now in
    rows_types (ops_of items) c.check_types.result
    (sym (declared_is items c.args.size c.requires.size) ∙ sym c.if-not-is_declared.ensures)
    c.check_types.ensures
