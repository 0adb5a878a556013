use Rattle.std.proofs.Common.{◌≡◌, ◌<◌, ◌++◌, drop, length}
use Rattle.std.specs.List.{AllByRecursion}
use Rattle.delivery_formats.specs.Seen.{machine_head}
use Rattle.reference_machine.specs.Deliveries.{targets}
use Rattle.cap_boot.proofs.UnitLists.{targets_from}
use Rattle.cap_boot.proofs.unit_list.targets_of.Given as goal

abbrev pub invariant-loop-number : goal.invariant-loop-number
invariant-loop-number l = record {
  made : l.list.items ++ targets_from (machine_head l.image.header) l.number
      (drop l.number l.devices) ≡ targets (machine_head l.image.header) l.board;
  there : AllByRecursion (λ t. t < length l.board.devices) l.list.items;
}
