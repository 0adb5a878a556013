use Rattle.std.proofs.Common.{◌≡◌, map, take}
use Rattle.toml.specs.View.{view}
use Rattle.recipe_files.specs.Digests.{digest_of}
use Rattle.recipe_files.specs.Tests.{digest_test, digests_test}
use Rattle.recipe_files.proofs.FaultLemmas.{fault_from}
use Rattle.recipe_files.proofs.digests.read_digests.Given as goal

abbrev pub invariant-loop-value : goal.invariant-loop-value
invariant-loop-value l = record {
  same : l.value-items ≡ l.list.items;
  rest : digests_test (map view l.list.items)
      ≡ fault_from digest_test l.list.items l.value-index;
  so_far : l.digests.items ≡ map digest_of (map view (take l.value-index l.list.items));
}
