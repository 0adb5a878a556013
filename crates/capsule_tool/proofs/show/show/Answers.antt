use Rattle.std.proofs.Common.{◌≡◌, ◌∙◌, ℕ, List, ap, rules}
use Rattle.std.specs.Prelude.{Err}
use Rattle.std.proofs.lemmas.Result.{err_from_is_err_and}
use Rattle.capsule_tool.specs.Files.{show_answer}
use Rattle.capsule_tool.specs.Findings.{Finding, bare}
use Rattle.capsule_tool.specs.Works.{Work}
use Rattle.capsule_tool.specs.Works.Work.{Finds}
use Rattle.capsule_tool.specs.declared.stop.Stop.TheVariants.{Memory}
use Rattle.capsule_tool.proofs.WorkLaws.{ends_short, finds_as}
use Rattle.capsule_tool.proofs.show.show.Goals as goal

pub returns-in_err-bytes-clause-steps : goal.returns-in_err-bytes-clause-steps
returns-in_err-bytes-clause-steps g c =
    let p = err_from_is_err_and c.from_residual.result c.from_residual.ensures.1 in
    rw (p.1, p.2)
    (c.in_err-bytes.ensures.steps (λ (bytes : List ℕ). Finds (bare (show_answer bytes))))

pub returns-in_err-answer-clause-steps : goal.returns-in_err-answer-clause-steps
returns-in_err-answer-clause-steps g c =
    let is : c.from_residual-in_err-answer.result ≡ Err Memory = search rules in
    ends_short _ (λ (found : Finding). Finds found) _ _ _ _ is
    (c.in_ok-bytes.ensures.steps (λ (bytes : List ℕ). Finds (bare (show_answer bytes))))

pub returns-clause-steps : goal.returns-clause-steps
returns-clause-steps g c =
    finds_as _ _ _ _ _ _ (c.bare.ensures ∙ ap bare c.in_ok-answer.ensures
    ∙ ap (λ (bytes : List ℕ). bare (show_answer bytes)) c.as_slice.ensures)
    (c.in_ok-bytes.ensures.steps (λ (bytes : List ℕ). Finds (bare (show_answer bytes))))
