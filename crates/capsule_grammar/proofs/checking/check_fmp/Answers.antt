use Rattle.std.proofs.Common.{◌∙◌, ◌++◌}
use Rattle.std.proofs.lemmas.Result.{err_from_is_err_and}
use Rattle.capsule_grammar.specs.Refusals.{fmp_front_rows, all_offset_rows, all_image_rows, told}
use Rattle.cu_base.proofs.Rows.{first-none, first-some, answers_then}
use Rattle.capsule_grammar.proofs.FrontLemmas.{begins_itself}
use Rattle.capsule_grammar.proofs.checking.check_fmp.Goals as goal

pub returns-in_err-check_offsets : goal.returns-in_err-check_offsets
returns-in_err-check_offsets c =
    let body = c.args.body.now in
    let at = c.args.at in
    let itself = begins_itself body in
    let p = err_from_is_err_and c.from_residual-in_err-check_offsets.result
    c.from_residual-in_err-check_offsets.ensures.1 in
    rw (p.1, p.2)
    (first-none (fmp_front_rows body at) (all_offset_rows body at ++ all_image_rows body at)
    (c.in_ok-check_fmp_header.ensures.refused body itself)
    ∙ first-some (all_offset_rows body at) (all_image_rows body at) _
    (c.in_err-check_offsets.ensures.refused body itself))

pub returns : goal.returns
returns c =
    let body = c.args.body.now in
    let at = c.args.at in
    let itself = begins_itself body in
    answers_then told c.check_images.result (fmp_front_rows body at)
    (all_offset_rows body at ++ all_image_rows body at)
    (c.in_ok-check_fmp_header.ensures.refused body itself)
    (answers_then told c.check_images.result (all_offset_rows body at) (all_image_rows body at)
    (c.in_ok-check_offsets.ensures.refused body itself) c.check_images.ensures)
