use Rattle.std.proofs.Common.{ℕ, List, ◌++◌, ◌∙◌, sym, ap}
use Rattle.capsule_grammar.specs.Pieces.{joined}
use Rattle.capsule_grammar.specs.Spelling.{body_bytes}
use Rattle.recipe_files.specs.Builds.{body_of}
use Rattle.recipe_files.specs.declared.body.RecipeBody.{RecipeBody}
use Rattle.recipe_files.specs.Recipes.{RecipeValue}
use Rattle.recipe_files.specs.RecipeTypes.{body_seen}
use Rattle.recipe_files.specs.Room.{found}
use Rattle.recipe_files.proofs.LayLemmas.{two_pieces}
use Rattle.recipe_files.proofs.pieces.put_body.Goals as goal

pub returns-in_ok-push-in-Other-2 : goal.returns-in_ok-push-in-Other-2
returns-in_ok-push-in-Other-2 c =
    let f = found c.args.index.now in
    two_pieces c.args.pieces.now.items c.push.new.self.items c.push-in-Other.new.self.items _ _
    c.in_ok-push-in-Other.ensures.ok c.in_ok-push-in-Other-2.ensures.ok
    ∙ ap (λ (l : List ℕ). joined c.args.pieces.now.items ++ (c.args.heads ++ l))
    (c.find.ensures ∙ ap f c.as_str.ensures
    ∙ sym (ap (λ (b : RecipeBody). body_bytes (body_of f (body_seen b))) c.in-Other.is)
    ∙ ap (λ (r : RecipeValue). body_bytes (body_of f r.body)) c.recipe.view_is)
