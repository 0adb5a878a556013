use Rattle.std.proofs.Common.{refl, arith}
use Rattle.std.proofs.lemmas.Result.{err_from_is_err_and}
use Rattle.capsule_tool.proofs.ScanLaws.{head_few, image_told, image_cut, image_stopped, rose_then}
use Rattle.capsule_tool.proofs.scan.body.scan_image.Goals as goal

pub returns-in_err-fill-clause-scan : goal.returns-in_err-fill-clause-scan
returns-in_err-fill-clause-scan g c =
    let p = err_from_is_err_and c.from_residual-in_err-fill.result
    c.from_residual-in_err-fill.ensures.1 in
    rw (p.1, p.2) (image_stopped _ _ _ _ _ _
    (λ is. image_cut _ _ _ _ _ _ c.in_ok-pass.ensures.ok (c.in_err-fill.ensures.refused is)
    (head_few 48 _ _ _ _ refl c.min-there.ensures c.fill.ensures.size))
    (λ is. rose_then _ _ _ c.in_ok-pass.ensures.cause.later
    (c.in_err-fill.ensures.cause.failed is)))

pub returns-in_err-check_image-clause-scan : goal.returns-in_err-check_image-clause-scan
returns-in_err-check_image-clause-scan g c =
    let p = err_from_is_err_and c.from_residual-in_err-check_image.result
    c.from_residual-in_err-check_image.ensures.1 in
    rw (p.1, p.2) (image_told _ _ _ _ _ _ _ _ c.in_ok-pass.ensures.ok c.in_ok-fill.ensures.ok
    (head_few 48 _ _ _ _ refl c.min-there.ensures c.fill.ensures.size)
    c.in_err-check_image.ensures)

pub returns-clause-scan : goal.returns-clause-scan
returns-clause-scan g c = (
  omega (arith, c.min-there.ensures),
  image_told _ _ _ _ _ _ _ _ c.in_ok-pass.ensures.ok
      c.in_ok-fill.ensures.ok (head_few 48 _ _ _ _ refl c.min-there.ensures c.fill.ensures.size)
      c.in_ok-check_image.ensures,
)
