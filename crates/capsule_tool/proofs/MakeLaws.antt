-- What the steps of making a capsule do by the bytes.
use Rattle.std.proofs.Common.{◌≡◌, ℕ, ◌+◌, nat_lt, Bool, true, false, cond, List, [], ◌∷◌, ◌++◌}
use Rattle.std.proofs.Common.{length, refl, sym}
use Rattle.cu_io.specs.Named.{Named}
use Rattle.cu_io.specs.Seen.{Seen}
use Rattle.std.specs.Prelude.{Option}
use Rattle.capsule_grammar.specs.Fits.{is_sized}
use Rattle.capsule_grammar.specs.Spelling.{spelling}
use Rattle.recipe_files.specs.Builds.{capsule_of, contents_of}
use Rattle.recipe_files.specs.Mentions.{inputs_of}
use Rattle.recipe_files.specs.Recipes.{RecipeValue}
use Rattle.capsule_tool.specs.declared.limits.TheConstants.{MAX_NAMED_BYTES}
use Rattle.capsule_tool.specs.declared.stop.Stop.{Stop}
use Rattle.capsule_tool.specs.Files.{written}
use Rattle.capsule_tool.specs.Loads.{load_next}
use Rattle.capsule_tool.specs.Makes.{long_capsule, made, making_work}
use Rattle.capsule_tool.specs.Steps.{StopsAt}
use Rattle.capsule_tool.specs.Works.{Work, ComesTo}

pub load_goes : (loaded loaded' : Named) (sum : ℕ) (name bytes : List ℕ) (rest : Named → ℕ → Work)
    → nat_lt MAX_NAMED_BYTES (sum + length bytes) ≡ false → loaded' ≡ loaded ++ (name, bytes) ∷ []
    → load_next loaded sum name rest bytes ≡ rest loaded' (sum + length bytes)
load_goes loaded loaded' sum name bytes rest small is = rw small (rw is refl)

pub made_within : (recipe : RecipeValue) (loaded : Named)
    → is_sized (capsule_of (contents_of loaded) recipe) ≡ true
    → written (spelling (capsule_of (contents_of loaded) recipe)) ≡ made recipe loaded
made_within recipe loaded sized = rw sized refl

pub made_past : (recipe : RecipeValue) (loaded : Named)
    → is_sized (capsule_of (contents_of loaded) recipe) ≡ false → long_capsule ≡ made recipe loaded
made_past recipe loaded past = rw past refl

-- the names of a recipe
pub mentions_come : (named : Option Named) (recipe : RecipeValue) (names : List (List ℕ))
    (b : Seen) (w : Work) (a : Seen) → names ≡ inputs_of recipe
    → ComesTo named (making_work recipe [] 0 names) b w a
    → ComesTo named (making_work recipe [] 0 (inputs_of recipe)) b w a
mentions_come named recipe names b w a is comes = rw is at comes

pub mentions_stop : (recipe : RecipeValue) (names : List (List ℕ)) (b a : Seen) (stop : Stop)
    → names ≡ inputs_of recipe → StopsAt (making_work recipe [] 0 names) b a stop
    → StopsAt (making_work recipe [] 0 (inputs_of recipe)) b a stop
mentions_stop recipe names b a stop is stops = rw is at stops
