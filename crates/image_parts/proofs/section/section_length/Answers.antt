use Rattle.std.proofs.Common.{◌≡◌, ℕ, ◌+◌, drop, refl, sym, ap, subst, ◌∙◌, arith}
use Rattle.std.proofs.lemmas.List.{take_rest}
use Rattle.dep_code.specs.Refusals.{op_size}
use Rattle.image_parts.proofs.Walks.{IsWithin, walk_goes, walk_section, walk_start}
use Rattle.image_parts.proofs.section.section_length.Goals as goal

pub loop-at-init : goal.loop-at-init
loop-at-init c = walk_start c.args.bytes.now c.requires.size c.requires.begins

pub overflow_add-at : goal.overflow_add-at
overflow_add-at c =
    let bytes = c.args.bytes.now in
    let at = c.loop-at.at in
    let go = walk_goes bytes at c.loop-at.invariant c.loop-at-test.true in
    let step : c.op_size-at.result ≡ op_size (drop at bytes) =
    c.op_size-at.ensures ∙ ap op_size (take_rest bytes at) in
    omega (arith, step, go.low)

pub loop-at-preserved : goal.loop-at-preserved
loop-at-preserved c =
    let bytes = c.args.bytes.now in
    let at = c.loop-at.at in
    let go = walk_goes bytes at c.loop-at.invariant c.loop-at-test.true in
    let step : c.op_size-at.result ≡ op_size (drop at bytes) =
    c.op_size-at.ensures ∙ ap op_size (take_rest bytes at) in
    subst (λ (n : ℕ). IsWithin bytes (at + n)) (sym step) go.next

pub returns-clause-section : goal.returns-clause-section
returns-clause-section c =
    walk_section c.args.bytes.now c.loop-at.at _ c.loop-at.invariant c.loop-at-test.false refl
