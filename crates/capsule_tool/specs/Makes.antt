-- The work of making a capsule: the recipe is read and parsed, then the inputs that it names, each
-- once in order of first mention.
use Rattle.std.specs.Prelude.{ℕ, Bool, List, [], codes, Result, Ok, Err, if◌then◌else◌}
use Rattle.cu_io.specs.Named.{Named}
use Rattle.capsule_grammar.specs.Fits.{is_sized}
use Rattle.capsule_grammar.specs.Spelling.{spelling}
use Rattle.recipe_files.specs.Builds.{capsule_of, contents_of}
use Rattle.recipe_files.specs.Mentions.{inputs_of}
use Rattle.recipe_files.specs.Recipes.{RecipeValue}
use Rattle.recipe_files.specs.RecipeTexts.{recipe_text}
use Rattle.recipe_files.specs.declared.faults.BadKind.{BadKind}
use Rattle.capsule_tool.specs.declared.answer.Answer.{Answer}
use Rattle.capsule_tool.specs.declared.limits.TheConstants.{MAX_TEXT_BYTES}
use Rattle.capsule_tool.specs.Answers.{faulty_recipe, long}
use Rattle.capsule_tool.specs.Files.{written}
use Rattle.capsule_tool.specs.Findings.{bare}
use Rattle.capsule_tool.specs.Loads.{load_work, loads_work}
use Rattle.capsule_tool.specs.Names.{file_kind}
use Rattle.capsule_tool.specs.Works.{Work}
use Rattle.capsule_tool.specs.Works.Work.{Finds, Reads}

-- the capsule of a recipe would pass its limit
abbrev pub long_capsule : Answer
long_capsule = long (codes "capsule")

-- the bytes of the capsule of a recipe over the inputs that are loaded, or that it would be too long
abbrev pub made : RecipeValue → Named → Answer
made recipe loaded =
    if is_sized (capsule_of (contents_of loaded) recipe)
    then written (spelling (capsule_of (contents_of loaded) recipe))
    else long_capsule

-- the inputs of these names are loaded, and the capsule is made
abbrev pub making_work : RecipeValue → Named → ℕ → List (List ℕ) → Work
making_work recipe = loads_work load_work (λ loaded. Finds (bare (made recipe loaded)))

-- what is done by what a recipe says
abbrev pub recipe_next : Result RecipeValue (BadKind × List ℕ) → Work
recipe_next (Err fault) = Finds (bare (faulty_recipe (file_kind fault.0) fault.1))
recipe_next (Ok recipe) = making_work recipe [] 0 (inputs_of recipe)

-- the recipe is read, and that is done
abbrev pub make_work : List ℕ → Work
make_work name = Reads MAX_TEXT_BYTES name (λ bytes. recipe_next (recipe_text bytes))
