-- The units of a delivery as a boot lists them.
use Rattle.std.specs.Prelude.{ℕ, ◌<◌, List, Option, drop, length, map, None}
use Rattle.std.specs.List.{enumerate_from}
use Rattle.bench_model.specs.Boards.{BoardValue}
use Rattle.capsule_grammar.specs.declared.value.Image.{Image}
use Rattle.cu_base.specs.declared.guid.Guid.{Guid}
use Rattle.delivery_formats.specs.Seen.{machine_item}
use Rattle.dev_claims.specs.declared.closing.UnitIds.{UnitIds}
use Rattle.reference_machine.specs.Boots.{unit_tasks}
use Rattle.reference_machine.specs.Deliveries.{BootUnit, Delivery, bare_unit, decoded_units}
use Rattle.reference_machine.specs.Deliveries.{item_unit, no_guid, numbered, unnumbered_key}
use Rattle.reference_machine.specs.Formats.{Capsule}
use Rattle.reference_machine.specs.declared.unit.Kind.{Kind}
use Rattle.reference_machine.specs.declared.unit.Kind.TheVariants as kind
use Rattle.reference_machine.specs.declared.unit.UnitKey.{UnitKey}
use Rattle.cap_boot.specs.declared.unit_list.DeliveryUnit.{DeliveryUnit}
use Rattle.cap_boot.specs.declared.unit_list.Matter.{Matter}
use Rattle.cap_boot.specs.declared.unit_list.Matter.TheVariants.{Bad, Skip, NoTarget, Try}
use Rattle.cap_boot.specs.declared.unit_list.Source.{Source}
use Rattle.cap_boot.specs.Going.{Tasks}

-- the delivery of a source, as far as its units tell of it
abbrev pub delivery_of : Source → Delivery
delivery_of s = record { route = s.route; serial = s.serial; name = s.name.now; bytes = None }

-- the unit of what a list tells, not numbered yet
abbrev pub unit_of : Delivery → ℕ → ℕ → Guid → Matter → BootUnit
unit_of d capsule item guid Bad = bare_unit kind.Bad (unnumbered_key d capsule item 255) guid
unit_of d capsule item guid Skip = bare_unit kind.Skip (unnumbered_key d capsule item 255) guid
unit_of d capsule item guid (NoTarget image) =
    item_unit d capsule guid (item, machine_item image.now) kind.NoTarget 255
unit_of d capsule item guid (Try image device) =
    item_unit d capsule guid (item, machine_item image.now) kind.Try device

-- the same of a unit in a list
abbrev pub boot_unit : Delivery → DeliveryUnit → BootUnit
boot_unit d u = unit_of d u.capsule u.item u.guid u.matter

-- the units of a list, numbered from this number on
abbrev pub numbered_from : ℕ → Delivery → List DeliveryUnit → List BootUnit
numbered_from n d us = map numbered (enumerate_from n (map (boot_unit d) us))

-- the device that is tried is one of the board
abbrev pub HasTarget : BoardValue → Matter → Type 0
HasTarget board Bad = Unit {0}
HasTarget board Skip = Unit {0}
HasTarget board (NoTarget image) = Unit {0}
HasTarget board (Try image device) = device < length board.devices

-- the unit that tries an image of a capsule on a device
abbrev pub try_unit : UnitKey → Guid → Image → BootUnit
try_unit key capsule image = record {
  kind = kind.Try;
  key = key;
  capsule = capsule;
  head = (machine_item image).head;
  image = image.image;
}

-- the unit starts no SetImage
abbrev pub IsUntried : Matter → Type 0
IsUntried Bad = Unit {0}
IsUntried Skip = Unit {0}
IsUntried (NoTarget image) = Unit {0}
IsUntried (Try image device) = ⊥

-- the kind of a unit
abbrev pub kind_of : Matter → Kind
kind_of Bad = kind.Bad
kind_of Skip = kind.Skip
kind_of (NoTarget image) = kind.NoTarget
kind_of (Try image device) = kind.Try

-- the device of a unit, 255 where it has none
abbrev pub device_of : Matter → ℕ
device_of Bad = 255
device_of Skip = 255
device_of (NoTarget image) = 255
device_of (Try image device) = device

-- what the result of a unit tells of its item: zeros where it has none
abbrev pub ids_of : Guid → Matter → UnitIds
ids_of guid Bad = record { capsule = guid; type_id = no_guid; index = 0 }
ids_of guid Skip = record { capsule = guid; type_id = no_guid; index = 0 }
ids_of guid (NoTarget image) =
    record { capsule = guid; type_id = image.now.header.type_id; index = image.now.header.index }
ids_of guid (Try image device) =
    record { capsule = guid; type_id = image.now.header.type_id; index = image.now.header.index }

-- the unit of this number in a delivery
abbrev pub listed_unit : Delivery → ℕ → DeliveryUnit → BootUnit
listed_unit d n u = numbered (n, boot_unit d u)

-- a key by which units of a delivery are told from those of others
abbrev pub delivery_key : Delivery → UnitKey
delivery_key d = unnumbered_key d 0 0 255

-- the work on the units of a list from a number on
abbrev pub listed_tasks : Delivery → List DeliveryUnit → ℕ → Tasks
listed_tasks d us from m = unit_tasks (drop from (numbered_from 0 d us))

-- the work on the units of what the bytes of a delivery decode to, from a number on
abbrev pub decoded_tasks : Delivery → Option (List Capsule) → ℕ → Tasks
decoded_tasks d found from m =
    unit_tasks (drop from (map numbered (enumerate_from 0 (decoded_units m.board d found))))
