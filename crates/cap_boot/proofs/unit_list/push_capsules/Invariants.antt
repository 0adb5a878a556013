use Rattle.std.proofs.Common.{◌≡◌, ◌++◌, Some, drop, flat_map, map}
use Rattle.std.specs.List.{AllByRecursion, enumerate_from}
use Rattle.cap_boot.specs.Units.{HasTarget, boot_unit}
use Rattle.delivery_formats.specs.Seen.{machine_capsule}
use Rattle.reference_machine.specs.Deliveries.{Delivery, capsule_units, decoded_units}
use Rattle.cap_boot.proofs.unit_list.push_capsules.Given as goal

abbrev pub invariant-loop-number : goal.invariant-loop-number
invariant-loop-number l = record {
  made : (d : Delivery) → map (boot_unit d) l.units.items ++ flat_map (capsule_units l.board d)
      (enumerate_from l.number (map machine_capsule (drop l.number l.capsules)))
      ≡ map (boot_unit d) l.initial.units.items
      ++ decoded_units l.board d (Some (map machine_capsule l.capsules));
  targets : AllByRecursion (λ u. HasTarget l.board u.matter) l.units.items;
}
