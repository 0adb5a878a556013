use Rattle.std.proofs.Common.{◌≡◌, IsTrue, map, take}
use Rattle.std.specs.List.{list_all}
use Rattle.toml.specs.View.{view}
use Rattle.recipe_files.specs.InputNames.{is_input_name}
use Rattle.recipe_files.specs.RecipeTexts.{driver_test, drivers_test}
use Rattle.recipe_files.specs.Values.{text_of}
use Rattle.recipe_files.proofs.FaultLemmas.{fault_from}
use Rattle.recipe_files.proofs.recipe_text.read_drivers.Given as goal

abbrev pub invariant-loop-entry : goal.invariant-loop-entry
invariant-loop-entry l = record {
  same : l.entry-items ≡ l.list.items;
  rest : drivers_test (map view l.list.items)
      ≡ fault_from driver_test l.list.items l.entry-index;
  so_far : l.drivers.items ≡ map text_of (map view (take l.entry-index l.list.items));
  names : IsTrue (list_all is_input_name l.drivers.items);
}
