use Rattle.std.proofs.Common.{◌≡◌, ◌++◌, ◌∙◌, ◌+◌, ◌*◌, length, drop, Err, ap, sym, subst, arith}
use Rattle.std.proofs.lemmas.Result.{err_from_is_err_and}
use Rattle.cu_base.specs.Refusals.{first_refusal, IsTold}
use Rattle.cu_base.proofs.Rows.{answers_then, first-none}
use Rattle.report_tables.specs.Esrt.{told_fault}
use Rattle.report_tables.specs.Results.{fmp_field_rows, fmp_end_rows, target_place, end_place}
use Rattle.report_tables.specs.Units.{text_rows}
use Rattle.report_tables.specs.declared.faults.ReportFault.TheVariants.{BadSize}
use Rattle.report_tables.proofs.ResultLemmas.{refused_first, Found, more_behind, none_behind}
use Rattle.report_tables.proofs.result_bytes.read_fmp.Goals as goal

pub returns-in_err-file-clause-refused : goal.returns-in_err-file-clause-refused
returns-in_err-file-clause-refused c =
    let bytes = c.args.bytes.now in
    let p = err_from_is_err_and c.from_residual-in_err-file.result
    c.from_residual-in_err-file.ensures.1 in
    answers_then told_fault c.from_residual-in_err-file.result (fmp_field_rows bytes)
    (text_rows (drop 68 bytes)
    ++ (text_rows (drop (target_place bytes) bytes) ++ fmp_end_rows bytes))
    c.in_ok-check_fmp_fields.ensures.refused
    (refused_first told_fault c.from_residual-in_err-file.result c.in_err-file.field-0.0
    (text_rows (drop 68 bytes)) (text_rows (drop (target_place bytes) bytes) ++ fmp_end_rows bytes)
    (p.1 ∙ ap Err p.2) c.in_err-file.ensures.refused)

pub returns-in_err-target-clause-refused : goal.returns-in_err-target-clause-refused
returns-in_err-target-clause-refused c =
    let bytes = c.args.bytes.now in
    let p = err_from_is_err_and c.from_residual-in_err-target.result
    c.from_residual-in_err-target.ensures.1 in
    let place : 68 + 2 * length c.as_str.result.now + 2 ≡ target_place bytes =
    omega (arith, ap length (c.as_str.ensures ∙ c.in_ok-file.ensures.value)) in
    let told : IsTold (told_fault c.in_err-target.field-0.0)
    (first_refusal (text_rows (drop (target_place bytes) bytes))) =
    subst
    (λ n. IsTold (told_fault c.in_err-target.field-0.0) (first_refusal (text_rows (drop n bytes))))
    place c.in_err-target.ensures.refused in
    answers_then told_fault c.from_residual-in_err-target.result (fmp_field_rows bytes)
    (text_rows (drop 68 bytes)
    ++ (text_rows (drop (target_place bytes) bytes) ++ fmp_end_rows bytes))
    c.in_ok-check_fmp_fields.ensures.refused
    (answers_then told_fault c.from_residual-in_err-target.result (text_rows (drop 68 bytes))
    (text_rows (drop (target_place bytes) bytes) ++ fmp_end_rows bytes)
    c.in_ok-file.ensures.refused
    (refused_first told_fault c.from_residual-in_err-target.result c.in_err-target.field-0.0
    (text_rows (drop (target_place bytes) bytes)) (fmp_end_rows bytes) (p.1 ∙ ap Err p.2) told))

pub returns-then-bytes-target_at-clause-refused : goal.returns-then-bytes-target_at-clause-refused
returns-then-bytes-target_at-clause-refused c =
    let bytes = c.args.bytes.now in
    let at = 68 + 2 * length c.as_str.result.now + 2 in
    let found : Found bytes at (at + 2 * length c.as_str-2.result.now + 2) = record {
      fields = c.in_ok-check_fmp_fields.ensures.refused;
      file = c.in_ok-file.ensures.refused;
      place = omega (arith, ap length (c.as_str.ensures ∙ c.in_ok-file.ensures.value));
      target = c.in_ok-target.ensures.refused;
      behind = omega (arith, ap length (c.as_str-2.ensures ∙ c.in_ok-target.ensures.value));
    } in
    more_behind bytes at _ found c.if-bytes-target_at.true

pub returns-clause-refused : goal.returns-clause-refused
returns-clause-refused c =
    let bytes = c.args.bytes.now in
    let at = 68 + 2 * length c.as_str.result.now + 2 in
    let found : Found bytes at (at + 2 * length c.as_str-2.result.now + 2) = record {
      fields = c.in_ok-check_fmp_fields.ensures.refused;
      file = c.in_ok-file.ensures.refused;
      place = omega (arith, ap length (c.as_str.ensures ∙ c.in_ok-file.ensures.value));
      target = c.in_ok-target.ensures.refused;
      behind = omega (arith, ap length (c.as_str-2.ensures ∙ c.in_ok-target.ensures.value));
    } in
    none_behind bytes at _ found c.if-bytes-target_at.false
