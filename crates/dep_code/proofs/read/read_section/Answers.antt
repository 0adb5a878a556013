use Rattle.std.proofs.Common.{◌≡◌, None, Err, List, ℕ, subst}
use Rattle.std.proofs.lemmas.Result.{err_from_is_err_and}
use Rattle.cu_base.specs.Refusals.{first_refusal}
use Rattle.dep_code.specs.declared.op.Op.{Op}
use Rattle.dep_code.specs.Refusals.{Answers, section_rows}
use Rattle.dep_code.specs.Sections.{ops_of}
use Rattle.dep_code.proofs.Wholes.{section_refused, placed_section}
use Rattle.dep_code.proofs.read.read_section.Goals as goal

pub returns-in_err-check_section-clause-refused : goal.returns-in_err-check_section-clause-refused
returns-in_err-check_section-clause-refused c =
    let p = err_from_is_err_and c.from_residual-in_err-check_section.result
    c.from_residual-in_err-check_section.ensures.1 in
    let rows = subst
    (λ (l : List (ℕ × Op)). Answers {X = ℕ} (Err c.in_err-check_section.field-0.0)
    (first_refusal (section_rows (ops_of l)))) c.as_slice.ensures c.in_err-check_section.ensures in
    rw (p.1, p.2)
    (section_refused c.args.bytes.now c.in_ok-list.list.items c.in_ok-list.size
    c.in_err-check_section.field-0.0 c.in_ok-list.ensures.ok rows)

pub of-requires : goal.of-requires
of-requires c =
    let rows = subst (λ (l : List (ℕ × Op)). first_refusal (section_rows (ops_of l)) ≡ None)
    c.as_slice.ensures c.in_ok-check_section.ensures in
    placed_section c.args.bytes.now c.in_ok-list.list.items c.in_ok-list.size
    c.in_ok-list.ensures.ok rows
