use Rattle.std.proofs.Common.{◌∙◌, ap, sym, arith}
use Rattle.reset_play.specs.Plays.{is_thin_on}
use Rattle.capsule_tool.specs.Answers.{later}
use Rattle.capsule_tool.proofs.PlayLaws.{input_goes, input_late, thin_on}
use Rattle.capsule_tool.proofs.play.inputs.keep_input.Goals as goal

pub returns-then-not-is_thin_on-clause-steps : goal.returns-then-not-is_thin_on-clause-steps
returns-then-not-is_thin_on-clause-steps c = λ rest.
    input_late c.args.board.now c.args.loaded.now.items c.args.sum.now c.args.name.now c.args.bytes
    rest c.in_ok-later.field-0
    (grind (arith, c.if-total.false, c.len.ensures))
    (sym (c.is_thin_on.ensures ∙ ap (is_thin_on c.args.board.now) c.as_slice.ensures)
    ∙ grind (arith, c.if-not-is_thin_on.true))
    (c.in_ok-later.ensures ∙ ap later c.as_str-then-not-is_thin_on.ensures)

pub returns-clause-steps : goal.returns-clause-steps
returns-clause-steps c = λ rest.
    rw c.len.ensures (input_goes c.args.board.now c.args.loaded.now.items c.push.new.self.items
    c.args.sum.now c.args.name.now c.args.bytes rest
    (grind (arith, c.if-total.false, c.len.ensures))
    (sym (c.is_thin_on.ensures ∙ ap (is_thin_on c.args.board.now) c.as_slice.ensures)
    ∙ grind (arith, c.if-not-is_thin_on.false))
    (rw (c.in_ok-name.ensures ∙ c.as_str-2.ensures) at c.in_ok-push.ensures.ok))

pub returns-clause-rule : goal.returns-clause-rule
returns-clause-rule c = thin_on c.args.board.now c.args.loaded.now.items c.push.new.self.items
    c.in_ok-name.name c.args.bytes
    (sym (c.is_thin_on.ensures ∙ ap (is_thin_on c.args.board.now) c.as_slice.ensures)
    ∙ grind (arith, c.if-not-is_thin_on.false))
    c.in_ok-push.ensures.ok
