-- First faults in a recipe's text.
use Rattle.std.proofs.Common.{◌≡◌, ℕ, Bool, true, List, [], ◌∷◌, ◌++◌, map, refl}
use Rattle.std.proofs.Common.{IsTrue}
use Rattle.std.specs.List.{AllByRecursion, list_all}
use Rattle.recipe_files.specs.Recipes.{ItemValue, IsItem}
use Rattle.std.proofs.lemmas.List.Folds.{list_all-append}
use Rattle.toml.specs.Data.{Members}
use Rattle.toml.specs.View.{view}
use Rattle.toml.specs.declared.value.Value.{Value}
use Rattle.recipe_files.specs.declared.keys.Key.TheVariants.{CapsuleGuid, Flags, Ext, Drivers}
use Rattle.recipe_files.specs.declared.keys.Key.TheVariants.{Item, Header, TypeId, Index, Instance}
use Rattle.recipe_files.specs.declared.keys.Key.TheVariants.{Auth, FwVersion, Lowest, Payload}
use Rattle.recipe_files.specs.declared.keys.Key.TheVariants.{Vendor, Monotonic, CertType, Cert, Dep}
use Rattle.recipe_files.specs.RecipeItems.{firmware_tables, firmware_test, header_test}
use Rattle.recipe_files.specs.RecipeItems.{instance_test, item_entry_test, item_rows, item_tables}
use Rattle.recipe_files.specs.RecipeItems.{item_test, signing_tables, signing_test}
use Rattle.recipe_files.specs.RecipeItems.{target_tables, target_test}
use Rattle.recipe_files.specs.RecipeTexts.{body_test, driver_rows, driver_test, drivers_test}
use Rattle.recipe_files.specs.RecipeTexts.{fmp_tables, is_fmp, items_test}
use Rattle.recipe_files.specs.RecipeTexts.{recipe_tables, recipe_test}
use Rattle.recipe_files.specs.Tests.{key_test}
use Rattle.recipe_files.specs.Values.{entries_in}
use Rattle.recipe_files.proofs.FaultLemmas.{along_is, fault_from, first_there, of_tables}

pub target_test_is : (table : Members) → target_test table ≡ first_there (
    key_test Header table
    ∷ header_test table
    ∷ key_test TypeId table
    ∷ key_test Index table
    ∷ key_test Instance table
    ∷ instance_test table
    ∷ [])
unfolding target_test key_test header_test instance_test
target_test_is table = of_tables (target_tables table)

pub firmware_test_is : (table : Members) → firmware_test table ≡ first_there (
    key_test Auth table
    ∷ key_test FwVersion table
    ∷ key_test Lowest table
    ∷ key_test Payload table
    ∷ [])
unfolding firmware_test key_test
firmware_test_is table = of_tables (firmware_tables table)

pub signing_test_is : (table : Members) → signing_test table ≡ first_there (
    key_test Monotonic table
    ∷ key_test CertType table
    ∷ key_test Cert table
    ∷ [])
unfolding signing_test key_test
signing_test_is table = of_tables (signing_tables table)

pub item_test_is : (table : Members) → item_test table ≡ first_there (
    target_test table
    ∷ firmware_test table
    ∷ key_test Vendor table
    ∷ signing_test table
    ∷ key_test Dep table
    ∷ [])
unfolding item_test target_test firmware_test signing_test key_test
item_test_is table = of_tables (item_tables table)

pub fmp_test_is : (table : Members) → body_test true table ≡ first_there (
    key_test Drivers table
    ∷ drivers_test (entries_in Drivers table)
    ∷ key_test Item table
    ∷ items_test (entries_in Item table)
    ∷ [])
unfolding body_test key_test drivers_test items_test
fmp_test_is table = of_tables (fmp_tables table)

pub recipe_test_is : (table : Members) → recipe_test table ≡ first_there (
    key_test CapsuleGuid table
    ∷ key_test Flags table
    ∷ key_test Ext table
    ∷ body_test (is_fmp table) table
    ∷ [])
unfolding recipe_test key_test body_test
recipe_test_is table = of_tables (recipe_tables table)

pub drivers_test_is : (vs : List Value)
    → drivers_test (map view vs) ≡ fault_from driver_test vs 0
unfolding drivers_test driver_test
drivers_test_is vs = along_is driver_rows vs

pub items_test_is : (vs : List Value)
    → items_test (map view vs) ≡ fault_from item_entry_test vs 0
unfolding items_test item_entry_test
items_test_is vs = along_is item_rows vs

pub named_more : (p : List ℕ → Bool) (names : List (List ℕ)) (name : List ℕ)
    → IsTrue (list_all p names) → IsTrue (p name) → IsTrue (list_all p (names ++ name ∷ []))
named_more p names name so_far here = rw (list_all-append p names (name ∷ []), so_far, here) refl

pub items_more : (items : List ItemValue) (i : ItemValue) → AllByRecursion IsItem items → IsItem i
    → AllByRecursion IsItem (items ++ i ∷ [])
items_more [] i each is = (is, tt)
items_more (x ∷ items) i each is = (each.0, items_more items i each.1 is)
