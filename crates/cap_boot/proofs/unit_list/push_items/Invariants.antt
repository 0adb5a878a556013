use Rattle.std.proofs.Common.{◌≡◌, ◌++◌, drop, flat_map, map}
use Rattle.std.specs.List.{AllByRecursion, enumerate_from}
use Rattle.cap_boot.specs.Units.{HasTarget, boot_unit}
use Rattle.delivery_formats.specs.Seen.{machine_item}
use Rattle.reference_machine.specs.Deliveries.{Delivery, item_units}
use Rattle.cap_boot.proofs.unit_list.push_items.Given as goal

abbrev pub invariant-loop-item : goal.invariant-loop-item
invariant-loop-item l = record {
  made : (d : Delivery) → map (boot_unit d) l.units.items
      ++ flat_map (item_units l.board d l.capsule l.guid)
      (enumerate_from l.item (map machine_item (drop l.item l.images)))
      ≡ map (boot_unit d) l.initial.units.items ++ flat_map (item_units l.board d l.capsule l.guid)
      (enumerate_from 0 (map machine_item l.images));
  targets : AllByRecursion (λ u. HasTarget l.board u.matter) l.units.items;
}
