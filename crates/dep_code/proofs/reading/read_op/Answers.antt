use Rattle.std.proofs.Common.{arith}
use Rattle.cu_base.specs.Bytes.{IsBytes}
use Rattle.dep_code.proofs.Bytes.{version_op, declare_op, text_op, text_form}
use Rattle.dep_code.proofs.reading.read_op.Goals as goal

pub returns-in-1-clause-bytes : goal.returns-in-1-clause-bytes
returns-in-1-clause-bytes c =
    let is : IsBytes c.args.rest.now = λ i. omega (arith, c.type_inv.rest i) in
    version_op c.args.rest.now c.u32_at.result c.args.size is c.in-1.is c.requires.size
    c.requires.there c.u32_at.ensures

pub returns-in-14-clause-bytes : goal.returns-in-14-clause-bytes
returns-in-14-clause-bytes c =
    let is : IsBytes c.args.rest.now = λ i. omega (arith, c.type_inv.rest i) in
    declare_op c.args.rest.now c.u32_at-in-14.result c.args.size is c.in-14.is c.requires.size
    c.requires.there c.u32_at-in-14.ensures

pub returns-in_ok-from_slice-in-2-clause-bytes : goal.returns-in_ok-from_slice-in-2-clause-bytes
returns-in_ok-from_slice-in-2-clause-bytes c =
    text_op c.args.rest.now c.in_ok-from_slice-in-2.field-0 c.args.size c.in-2.is c.requires.size
    c.requires.there c.in_ok-from_slice-in-2.ensures

pub returns-in_ok-from_slice-in-2-clause-form : goal.returns-in_ok-from_slice-in-2-clause-form
returns-in_ok-from_slice-in-2-clause-form c =
    text_form c.args.rest.now c.in_ok-from_slice-in-2.field-0 c.args.size c.in-2.is c.requires.size
    c.in_ok-from_slice-in-2.ensures
