-- The values of the types of recipes.
use Rattle.std.specs.Prelude.{ℕ, List}
use Rattle.cu_base.specs.declared.guid.Guid.{Guid}
use Rattle.recipe_files.specs.declared.body.RecipeBody.{RecipeBody}
use Rattle.recipe_files.specs.declared.body.RecipeBody.TheVariants.{Other, Fmp}
use Rattle.recipe_files.specs.Recipes.{BodyValue, RecipeValue, other, fmp}

-- a body, without the room of its lists
abbrev pub body_seen : RecipeBody → BodyValue
body_seen (Other name) = other name
body_seen (Fmp drivers items) = fmp drivers.items items.items

-- the recipe of these fields, in their order
abbrev pub recipe : Guid → ℕ → List ℕ → RecipeBody → RecipeValue
recipe guid flags ext body = record {
  guid = guid;
  flags = flags;
  ext = ext;
  body = body_seen body;
}
