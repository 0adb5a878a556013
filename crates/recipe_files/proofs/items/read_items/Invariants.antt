use Rattle.std.proofs.Common.{◌≡◌, map, take}
use Rattle.std.specs.List.{AllByRecursion}
use Rattle.toml.specs.View.{view}
use Rattle.recipe_files.specs.RecipeItems.{item_entry_test, item_of}
use Rattle.recipe_files.specs.RecipeTexts.{items_test}
use Rattle.recipe_files.specs.Recipes.{IsItem}
use Rattle.recipe_files.proofs.FaultLemmas.{fault_from}
use Rattle.recipe_files.proofs.items.read_items.Given as goal

abbrev pub invariant-loop-entry : goal.invariant-loop-entry
invariant-loop-entry l = record {
  same : l.entry-items ≡ l.list.items;
  rest : items_test (map view l.list.items)
      ≡ fault_from item_entry_test l.list.items l.entry-index;
  so_far : l.items.items ≡ map item_of (map view (take l.entry-index l.list.items));
  each : AllByRecursion IsItem l.items.items;
}
