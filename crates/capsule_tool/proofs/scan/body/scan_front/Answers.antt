use Rattle.std.proofs.Common.{◌≡◌, ℕ, min, List, length, refl, arith}
use Rattle.std.proofs.lemmas.Result.{err_from_is_err_and}
use Rattle.capsule_grammar.specs.Refusals.{fmp_front_rows}
use Rattle.capsule_tool.proofs.ScanLaws.{head_few, scans_stop}
use Rattle.capsule_tool.proofs.scan.body.scan_front.Goals as goal

pub returns-in_err-list-clause-stop : goal.returns-in_err-list-clause-stop
returns-in_err-list-clause-stop g c =
    let p = err_from_is_err_and c.from_residual-in_err-list.result
    c.from_residual-in_err-list.ensures.1 in
    let few : length c.fill.new.out ≡ min 8 c.args.size =
    head_few 8 _ _ _ _ refl (omega (arith, c.min.ensures)) c.fill.ensures.size in
    rw (p.1, p.2) (scans_stop (List ℕ) _ _ _ (λ body. fmp_front_rows body c.args.at) _ _ _ _
    c.in_ok-fill.ensures.ok c.in_err-list.ensures.stop
    (omega (arith, few, c.in_ok-check_fmp_header.ensures.ok.0, c.item_count.ensures.value)))
