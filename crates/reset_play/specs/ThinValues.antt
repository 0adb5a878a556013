-- What the values of a play on lists say in the words of the reference machine.
use Rattle.std.specs.Prelude.{ℕ, List, [], Option, None, Some, if◌then◌else◌}
use Rattle.cu_base.specs.declared.guid.Guid.{Guid}
use Rattle.reset_play.specs.declared.thin_play.delivery.ThinItem.{ThinItem}
use Rattle.image_parts.specs.declared.value.Parts.{Parts}
use Rattle.image_parts.specs.Values.{parts_seen}
use Rattle.reset_play.specs.declared.thin_play.spent.Standing.{Standing}
use Rattle.reset_play.specs.declared.thin_play.spent.Standing.TheVariants as standing
use Rattle.reference_machine.specs.declared.unit.Kind.TheVariants.{Try}
use Rattle.reference_machine.specs.declared.unit.UnitKey.{UnitKey}
use Rattle.reference_machine.specs.Deliveries.{fmp_guid}
use Rattle.reference_machine.specs.Formats as machine
use Rattle.reference_machine.specs.Formats.{ItemHead, Item}
use Rattle.delivery_formats.specs.Seen.{machine_parts}
use Rattle.reference_machine.specs.Machine.{first_moment}
use Rattle.reference_machine.specs.Spent as spent
use Rattle.reference_machine.specs.Spent.{Element}
use Rattle.reset_play.specs.Thin.{is_thin, thin_item}

-- the header of a thin item: of version 3, for images of support 0
abbrev pub thin_head : Guid → ℕ → ℕ → ItemHead
thin_head type_id index instance = record {
  version = 3;
  type_id = type_id;
  index = index;
  instance = instance;
  support = 0;
}

-- the item that a value says
abbrev pub item_of : ThinItem → Item
item_of t = record { head = thin_head t.type_id t.index t.instance; image = t.image.now }

-- the item that the bytes of a thin delivery say, none where they are not thin
abbrev pub thin_said : List ℕ → Option Item
thin_said bytes = if is_thin bytes then Some (thin_item bytes) else None

-- the parts that a value says, as the machine sees them
abbrev pub parts_of : Parts → machine.Parts
parts_of p = machine_parts (parts_seen p)

-- what a standing says: no event of a play on lists moves the clock
abbrev pub standing_of : Standing → spent.Standing
standing_of standing.Open = spent.Standing.Open
standing_of (standing.Closed end) = spent.Standing.Closed (Some end) first_moment

-- the attempt of a key, an item's header, and its image's version, floor and payload
abbrev pub attempt_of : UnitKey → ItemHead → ℕ → ℕ → List ℕ → Standing → Element
attempt_of key head version floor payload standing = record {
  kind = Try;
  key = key;
  capsule = fmp_guid;
  head = head;
  version = version;
  floor = floor;
  dependency = [];
  payload = payload;
  standing = standing_of standing;
}
