use Rattle.std.proofs.Common.{◌∙◌, arith}
use Rattle.capsule_tool.proofs.MakeLaws.{load_goes}
use Rattle.capsule_tool.proofs.make.inputs.keep_input.Goals as goal

pub returns-clause-steps : goal.returns-clause-steps
returns-clause-steps c = λ rest.
    rw c.len.ensures (load_goes c.args.loaded.now.items c.push.new.self.items
    c.args.sum.now c.args.name.now c.args.bytes rest
    (grind (arith, c.if-total.false, c.len.ensures))
    (rw (c.in_ok-name.ensures ∙ c.as_str-2.ensures) at c.in_ok-push.ensures.ok))
