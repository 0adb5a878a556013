use Rattle.recipe_files.specs.RecipeTypes.{recipe}
use Rattle.recipe_files.specs.Room.{found}
use Rattle.recipe_files.proofs.BuildLemmas.{body_made}
use Rattle.recipe_files.proofs.building.make.Goals as goal

pub returns-clause-rule : goal.returns-clause-rule
returns-clause-rule c =
    let i = c.recipe.inside in
    body_made (found c.args.index.now) c.args.recipe.now (recipe i.guid i.flags i.ext i.body)
    c.in_ok-body.body c.recipe.view_is c.recipe.invariant c.in_ok-body.ensures
