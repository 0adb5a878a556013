use Rattle.toml.specs.View.{table_view}
use Rattle.recipe_files.proofs.RecipeLemmas.{none_in_item, read_is, read_keeps}
use Rattle.recipe_files.proofs.items.read_item.Goals as goal

pub invariant_of-result : goal.invariant_of-result
invariant_of-result c =
    read_keeps (table_view c.args.table.now) _ _ _ _ _ c.in_ok-target.ensures
    c.in_ok-firmware.ensures.1 c.in_ok-signing.ensures.1 c.in_ok-dep.ensures.1.0
    c.in_ok-dep.ensures.1.1

pub returns : goal.returns
returns c = (
  none_in_item (table_view c.args.table.now) _ _ _ c.in_ok-target.ensures
      c.in_ok-firmware.ensures.1 c.in_ok-vendor.ensures.0 c.in_ok-signing.ensures.1
      c.in_ok-dep.ensures.0,
  (
    read_is (table_view c.args.table.now) _ _ _ _ _ c.in_ok-target.ensures
        c.in_ok-firmware.ensures.1 c.in_ok-vendor.ensures.1 c.in_ok-signing.ensures.1
        c.in_ok-dep.ensures.1.0,
    read_keeps (table_view c.args.table.now) _ _ _ _ _ c.in_ok-target.ensures
        c.in_ok-firmware.ensures.1 c.in_ok-signing.ensures.1 c.in_ok-dep.ensures.1.0
        c.in_ok-dep.ensures.1.1,
  ),
)
