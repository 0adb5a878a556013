-- The inputs that a recipe names, each once, in order of first mention: the drivers and then the
-- payloads, or the body of a capsule that is no FMP capsule.
use Rattle.std.specs.Prelude.{ℕ, Bool, List, [], ◌∷◌, ◌++◌, map, if◌then◌else◌}
use Rattle.std.specs.List.{list_any}
use Rattle.std.specs.Str.{bytes_eq}
use Rattle.recipe_files.specs.Recipes.{BodyValue, ItemValue, RecipeValue, other, fmp}

-- the input that an item names
abbrev pub payload_name : ItemValue → List ℕ
payload_name i = i.payload

-- the names that a body mentions, in order
abbrev pub mentioned : BodyValue → List (List ℕ)
mentioned (other name) = name ∷ []
mentioned (fmp drivers items) = drivers ++ map payload_name items

-- a name is among others
abbrev pub is_among : List (List ℕ) → List ℕ → Bool
is_among names name = list_any (bytes_eq name) names

-- each of the names that is not among those before it, in order
abbrev pub first_mentions : List (List ℕ) → List (List ℕ) → List (List ℕ)
first_mentions earlier [] = []
first_mentions earlier (name ∷ names) =
    if is_among earlier name then first_mentions earlier names
    else name ∷ first_mentions (earlier ++ name ∷ []) names

-- the inputs of a recipe
abbrev pub inputs_of : RecipeValue → List (List ℕ)
inputs_of r = first_mentions [] (mentioned r.body)
