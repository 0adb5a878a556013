use Rattle.std.proofs.lemmas.Result.{err_from_is_err_and}
use Rattle.capsule_tool.proofs.ScanLaws.{offsets_told, images_told}
use Rattle.capsule_tool.proofs.scan.body.scan_body.Goals as goal

pub returns-in_err-check_offsets-clause-scan : goal.returns-in_err-check_offsets-clause-scan
returns-in_err-check_offsets-clause-scan g c =
    let p = err_from_is_err_and c.from_residual-in_err-check_offsets.result
    c.from_residual-in_err-check_offsets.ensures.1 in
    let f = c.in_ok-front.ensures in
    rw (p.1, p.2) (offsets_told (Unit {0}) _ _ _ _ _ _ f.front f.within f.rows
    (λ body begins. c.in_err-check_offsets.ensures.refused body (rw c.as_slice.ensures begins)))

pub returns-clause-scan : goal.returns-clause-scan
returns-clause-scan g c =
    let f = c.in_ok-front.ensures in
    images_told _ _ _ _ _ _ c.scan_images.result f.front f.rows
    (λ body begins. c.in_ok-check_offsets.ensures.refused body (rw c.as_slice.ensures begins))
    (rw (← c.as_slice-2.ensures) c.scan_images.ensures.scan)
