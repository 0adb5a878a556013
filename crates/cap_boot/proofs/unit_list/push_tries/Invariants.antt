use Rattle.std.proofs.Common.{◌≡◌, ◌++◌, map, take}
use Rattle.std.specs.List.{AllByRecursion}
use Rattle.cap_boot.specs.Units.{HasTarget, boot_unit}
use Rattle.delivery_formats.specs.Seen.{machine_item}
use Rattle.reference_machine.specs.Deliveries.{Delivery, item_unit}
use Rattle.reference_machine.specs.declared.unit.Kind.TheVariants as kind
use Rattle.cap_boot.proofs.unit_list.push_tries.Given as goal

abbrev pub invariant-loop-device : goal.invariant-loop-device
invariant-loop-device l = record {
  made : (d : Delivery) → map (boot_unit d) l.units.items ≡ map (boot_unit d) l.initial.units.items
      ++ map (item_unit d l.capsule l.guid (l.item, machine_item l.image) kind.Try)
      (take l.device-index l.targets);
  targets : AllByRecursion (λ u. HasTarget l.board u.matter) l.units.items;
}
