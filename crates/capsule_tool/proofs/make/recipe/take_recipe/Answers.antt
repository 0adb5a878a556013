use Rattle.std.proofs.Common.{ℕ, List, []}
use Rattle.std.proofs.lemmas.Result.{err_from_is_err_and}
use Rattle.recipe_files.specs.Mentions.{inputs_of}
use Rattle.recipe_files.specs.Recipes.{RecipeValue}
use Rattle.recipe_files.specs.RecipeTexts.{recipe_text}
use Rattle.capsule_tool.specs.Makes.{making_work, recipe_next}
use Rattle.capsule_tool.proofs.WorkLaws.{step_on}
use Rattle.capsule_tool.proofs.make.recipe.take_recipe.Goals as goal

pub returns-in_err-bytes-clause-steps : goal.returns-in_err-bytes-clause-steps
returns-in_err-bytes-clause-steps g c =
    let p = err_from_is_err_and c.from_residual.result c.from_residual.ensures.1 in
    rw (p.1, p.2)
    (c.in_err-bytes.ensures.steps (λ (bytes : List ℕ). recipe_next (recipe_text bytes)))

pub returns-clause-steps : goal.returns-clause-steps
returns-clause-steps g c =
    step_on _ _ _ _ (λ (recipe : RecipeValue). making_work recipe [] 0 (inputs_of recipe))
    c.recipe_of.result
    (c.in_ok-bytes.ensures.steps (λ (bytes : List ℕ). recipe_next (recipe_text bytes)))
    c.recipe_of.ensures.steps
