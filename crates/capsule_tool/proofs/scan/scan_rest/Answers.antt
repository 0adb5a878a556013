use Rattle.std.proofs.Common.{◌≡◌, ◌+◌, ◌-◌, arith}
use Rattle.capsule_grammar.specs.Refusals.{fmp_rows}
use Rattle.capsule_tool.proofs.ScanLaws.{scans_ahead}
use Rattle.capsule_tool.proofs.scan.scan_rest.Goals as goal

pub returns-clause-scan : goal.returns-clause-scan
returns-clause-scan g c =
    let h = c.args.header.now in
    let sum : h.image_size - 28 ≡ (h.header_size - 28) + (h.image_size - h.header_size) =
    omega (arith, c.requires.low, c.requires.within) in
    rw sum (scans_ahead (h.header_size - 28) (h.image_size - h.header_size)
    (λ body. fmp_rows body h.header_size) _ _ _ c.scan_body.result c.in_ok-pass.ensures.ok
    c.scan_body.ensures.scan)
