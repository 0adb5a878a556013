use Rattle.std.proofs.Common.{◌≡◌, ◌∙◌, ap, rules}
use Rattle.std.specs.Prelude.{Err}
use Rattle.std.proofs.lemmas.Result.{err_from_is_err_and}
use Rattle.cu_io.specs.Named.{Named}
use Rattle.capsule_tool.specs.Findings.{Finding, bare}
use Rattle.capsule_tool.specs.Makes.{made}
use Rattle.capsule_tool.specs.Works.Work.{Finds}
use Rattle.capsule_tool.specs.declared.stop.Stop.TheVariants.{Memory}
use Rattle.capsule_tool.proofs.MakeLaws.{mentions_come, mentions_stop}
use Rattle.capsule_tool.proofs.WorkLaws.{ends_short, then_comes, then_stops, finds_as}
use Rattle.capsule_tool.proofs.make.make.Goals as goal

pub load_inputs-requires : goal.load_inputs-requires
load_inputs-requires g c = rw c.as_slice.ensures c.in_ok-names.ensures.distinct

pub returns-in_err-recipe-clause-steps : goal.returns-in_err-recipe-clause-steps
returns-in_err-recipe-clause-steps g c =
    let p = err_from_is_err_and c.from_residual.result c.from_residual.ensures.1 in
    rw (p.1, p.2) c.in_err-recipe.ensures.steps

pub returns-in_err-names-clause-steps : goal.returns-in_err-names-clause-steps
returns-in_err-names-clause-steps g c =
    let is : c.from_residual-in_err-names.result ≡ Err Memory = search rules in
    ends_short _ (λ (found : Finding). Finds found) (g.I.Inputs.seen c.args.inputs.now) _ _ _ is
    c.in_ok-recipe.ensures.steps

pub returns-in_err-loaded-clause-steps : goal.returns-in_err-loaded-clause-steps
returns-in_err-loaded-clause-steps g c =
    let seen = g.I.Inputs.seen in
    let recipe = c.in_ok-recipe.recipe in
    let p = err_from_is_err_and c.from_residual-in_err-loaded.result
    c.from_residual-in_err-loaded.ensures.1 in
    rw p.1
    (then_stops _ (seen c.args.inputs.now) _ (seen c.take_recipe.new.inputs)
    (seen c.load_inputs.new.inputs) p.0 c.in_ok-recipe.ensures.steps
    c.take_recipe.ensures.frame.named
    (mentions_stop recipe c.as_slice.result.now (seen c.take_recipe.new.inputs)
    (seen c.load_inputs.new.inputs) p.0 (c.as_slice.ensures ∙ c.in_ok-names.ensures.value)
    (rw p.2 (c.in_err-loaded.ensures.steps
    (λ (loaded : Named). Finds (bare (made recipe loaded)))))))

pub returns-in_err-answer-clause-steps : goal.returns-in_err-answer-clause-steps
returns-in_err-answer-clause-steps g c =
    let seen = g.I.Inputs.seen in
    let recipe = c.in_ok-recipe.recipe in
    let is : c.from_residual-in_err-answer.result ≡ Err Memory = search rules in
    ends_short _ (λ (found : Finding). Finds found) (seen c.args.inputs.now) _ _ _ is
    (then_comes _ (seen c.args.inputs.now) _ (seen c.take_recipe.new.inputs) _
    (seen c.load_inputs.new.inputs) c.in_ok-recipe.ensures.steps c.take_recipe.ensures.frame.named
    (mentions_come _ recipe c.as_slice.result.now (seen c.take_recipe.new.inputs) _
    (seen c.load_inputs.new.inputs) (c.as_slice.ensures ∙ c.in_ok-names.ensures.value)
    (c.in_ok-loaded.ensures.steps (λ (loaded : Named). Finds (bare (made recipe loaded))))))

pub returns-clause-steps : goal.returns-clause-steps
returns-clause-steps g c =
    let seen = g.I.Inputs.seen in
    let recipe = c.in_ok-recipe.recipe in
    finds_as _ _ _ _ _ _ (c.bare.ensures ∙ ap bare c.in_ok-answer.ensures)
    (then_comes _ (seen c.args.inputs.now) _ (seen c.take_recipe.new.inputs) _
    (seen c.load_inputs.new.inputs) c.in_ok-recipe.ensures.steps c.take_recipe.ensures.frame.named
    (mentions_come _ recipe c.as_slice.result.now (seen c.take_recipe.new.inputs) _
    (seen c.load_inputs.new.inputs) (c.as_slice.ensures ∙ c.in_ok-names.ensures.value)
    (c.in_ok-loaded.ensures.steps (λ (loaded : Named). Finds (bare (made recipe loaded))))))
