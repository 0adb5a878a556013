use Rattle.std.proofs.Common.{◌≡◌, ◌∙◌, ap, rules}
use Rattle.std.specs.Prelude.{Err}
use Rattle.std.proofs.lemmas.Result.{err_from_is_err_and}
use Rattle.capsule_tool.specs.Files.{verdict_answer}
use Rattle.capsule_tool.specs.Findings.{Finding, bare}
use Rattle.capsule_tool.specs.Works.{Work}
use Rattle.capsule_tool.specs.Works.Work.{Finds}
use Rattle.capsule_tool.specs.declared.stop.Stop.TheVariants.{Memory}
use Rattle.capsule_tool.specs.declared.verdict.Verdict.{Verdict}
use Rattle.capsule_tool.proofs.WorkLaws.{ends_short, finds_as}
use Rattle.capsule_tool.proofs.check.check.Goals as goal

pub returns-in_err-verdict-clause-steps : goal.returns-in_err-verdict-clause-steps
returns-in_err-verdict-clause-steps g c =
    let p = err_from_is_err_and c.from_residual.result c.from_residual.ensures.1 in
    rw (p.1, p.2)
    (c.in_err-verdict.ensures.steps (λ (verdict : Verdict). Finds (bare (verdict_answer verdict))))

pub returns-in_err-answer-clause-steps : goal.returns-in_err-answer-clause-steps
returns-in_err-answer-clause-steps g c =
    let is : c.from_residual-in_err-answer.result ≡ Err Memory = search rules in
    ends_short _ (λ (found : Finding). Finds found) _ _ _ _ is
    (c.in_ok-verdict.ensures.steps (λ (verdict : Verdict). Finds (bare (verdict_answer verdict))))

pub returns-clause-steps : goal.returns-clause-steps
returns-clause-steps g c =
    finds_as _ _ _ _ _ _ (c.bare.ensures ∙ ap bare c.in_ok-answer.ensures)
    (c.in_ok-verdict.ensures.steps (λ (verdict : Verdict). Finds (bare (verdict_answer verdict))))
