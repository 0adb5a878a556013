use Rattle.std.proofs.Common.{sym, ◌∙◌}
use Rattle.std.proofs.lemmas.Result.{err_from_is_err_and}
use Rattle.capsule_tool.proofs.FileLaws.{file_stopped, file_scanned, file_plain, plain_guid}
use Rattle.capsule_tool.proofs.FileLaws.{no_header}
use Rattle.capsule_tool.proofs.scan.scan.Goals as goal

pub returns-in_err-fill-clause-scan : goal.returns-in_err-fill-clause-scan
returns-in_err-fill-clause-scan g c =
    let p = err_from_is_err_and c.from_residual.result c.from_residual.ensures.1 in
    rw (p.1, p.2) (file_stopped (Unit {0}) _ _ _ _ _
    c.fill.ensures.size c.requires.short
    (λ is. c.in_err-fill.ensures.refused is) (λ is. c.in_err-fill.ensures.cause.failed is))

pub returns-in-Ok-clause-scan : goal.returns-in-Ok-clause-scan
returns-in-Ok-clause-scan g c =
    file_scanned _ _ c.in-Ok.header _ _ _ c.scan_rest.result (sym c.read-found.ensures.value)
    c.in_ok-fill.ensures.ok c.fill.ensures.size
    (sym c.in-Ok.ensures.value)
    (rw c.in-Ok.is at (sym c.is_fmp_guid.ensures ∙ c.if-is_fmp_guid.true))
    (rw c.in-Ok.is at c.scan_rest.ensures.scan)

pub returns-in_default-clause-scan : goal.returns-in_default-clause-scan
returns-in_default-clause-scan g c =
    file_plain _ _ _ _ (sym c.read-found.ensures.value) c.in_ok-fill.ensures.ok
    c.fill.ensures.size
    (λ is. plain_guid c.fill.new.out c.in-Ok.header (sym c.in-Ok.ensures.value)
    (rw c.in-Ok.is at (sym c.is_fmp_guid.ensures ∙ c.if-is_fmp_guid.false)))

pub returns-in_default-2-clause-scan : goal.returns-in_default-2-clause-scan
returns-in_default-2-clause-scan g c =
    file_plain _ _ _ _ (sym c.read-found.ensures.value) c.in_ok-fill.ensures.ok
    c.fill.ensures.size
    (λ is. absurd (no_header _ _ _ (sym c.read-found.ensures.value ∙ c.in_default.is) is))
