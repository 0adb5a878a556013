-- Deliveries and their units. A delivery holds capsules back to back; a unit is one piece of work
-- of a boot.
use Rattle.std.specs.Prelude.{ℕ, Bool, ◌==◌, ◌||◌, ◌&&◌, not, nat_lt, List, [], ◌∷◌, length, map}
use Rattle.std.specs.Prelude.{filter, flat_map, bytes_eq, Option, None, Some, option_and_then}
use Rattle.std.specs.Prelude.{if◌then◌else◌}
use Rattle.std.specs.List.{enumerate_from}
use Rattle.cu_base.specs.declared.guid.Guid.{Guid}
use Rattle.reference_machine.specs.declared.unit.Kind.{Kind}
use Rattle.reference_machine.specs.declared.unit.Kind.TheVariants.{Try, Skip, NoTarget, Bad}
use Rattle.reference_machine.specs.declared.unit.UnitKey.{UnitKey}
use Rattle.bench_model.specs.Boards.{BoardValue}
use Rattle.bench_model.specs.Devices.{DeviceValue}
use Rattle.fmp_headers.specs.declared.guids.TheConstants.{FMP_CAPSULE_GUID}
use Rattle.reference_machine.specs.declared.limits.TheConstants.{MAX_CAPSULE_ITEMS}
use Rattle.reference_machine.specs.Formats.{ItemHead, Item, Capsule, Formats}

-- a list of bytes with its route (0 is memory, 1 is disk), its serial and its file's name, which is
-- empty for memory. There are no bytes where the scatter list of a delivery by memory can't be
-- coalesced.
pub record Delivery : Type 0 where
  pub route : ℕ
  pub serial : ℕ
  pub name : List ℕ
  pub bytes : Option (List ℕ)

-- a unit: what it is of, and its update image. A unit without an item has the head of zeros and no
-- image.
pub record BootUnit : Type 0 where
  pub kind : Kind
  pub key : UnitKey
  pub capsule : Guid
  pub head : ItemHead
  pub image : List ℕ

-- the GUID of zeros
abbrev pub no_guid : Guid
no_guid = record { bytes = 0 ∷ 0 ∷ 0 ∷ 0 ∷ 0 ∷ 0 ∷ 0 ∷ 0 ∷ 0 ∷ 0 ∷ 0 ∷ 0 ∷ 0 ∷ 0 ∷ 0 ∷ 0 ∷ [] }

-- 6dcbd5ed-e82d-4c44-bda1-7194199ad92a, the GUID of FMP capsules (UEFI 2.10, 23.3)
abbrev pub fmp_guid : Guid
fmp_guid = FMP_CAPSULE_GUID

-- two GUIDs are equal
abbrev pub is_same_guid : Guid → Guid → Bool
is_same_guid a b = bytes_eq a.bytes b.bytes

-- the head of a unit without an item
abbrev pub no_head : ItemHead
no_head = record { version = 0; type_id = no_guid; index = 0; instance = 0; support = 0 }

-- a capsule that the platform passes over: of another GUID, with drivers, without items, or with
-- too many
abbrev pub is_passed_over : Capsule → Bool
is_passed_over c =
    not (is_same_guid c.guid fmp_guid) || not (c.drivers == 0) || length c.items == 0
    || nat_lt MAX_CAPSULE_ITEMS (length c.items)

-- whether a device is a target: the same type and index and, unless the item's instance is 0 or its
-- header has version 1, the same instance
abbrev pub is_target : ItemHead → DeviceValue → Bool
is_target h d = is_same_guid h.type_id d.type_id && h.index == d.index
    && (h.instance == 0 || h.version == 1 || h.instance == d.instance)

-- the numbers of the targets of an item, in board order
abbrev pub targets : ItemHead → BoardValue → List ℕ
targets h board = map (λ p. p.0) (filter (λ p. is_target h p.1) (enumerate_from 0 board.devices))

-- the key of a unit of a capsule, an item and a device of a delivery, whose number is not given yet
-- and stands as 0. What has no item has item 0, and what has no device has device 255.
abbrev pub unnumbered_key : Delivery → ℕ → ℕ → ℕ → UnitKey
unnumbered_key d capsule item device = record {
  ticket = record { route = d.route; capsule = capsule; item = item; serial = d.serial };
  unit = 0;
  device = device;
  name = d.name;
}

-- a unit of an item of a capsule, not numbered yet
abbrev pub item_unit : Delivery → ℕ → Guid → ℕ × Item → Kind → ℕ → BootUnit
item_unit d n guid (k, item) kind device = record {
  kind = kind;
  key = unnumbered_key d n k device;
  capsule = guid;
  head = item.head;
  image = item.image;
}

-- one try for each target, or that there is none
abbrev pub tries_on : (Kind → ℕ → BootUnit) → List ℕ → List BootUnit
tries_on unit [] = unit NoTarget 255 ∷ []
tries_on unit (t ∷ ts) = map (unit Try) (t ∷ ts)

-- the units of an item
abbrev pub item_units : BoardValue → Delivery → ℕ → Guid → ℕ × Item → List BootUnit
item_units board d n guid p = tries_on (item_unit d n guid p) (targets p.1.head board)

-- a unit of no item
abbrev pub bare_unit : Kind → UnitKey → Guid → BootUnit
bare_unit kind key guid = record {
  kind = kind;
  key = key;
  capsule = guid;
  head = no_head;
  image = [];
}

-- the units of a capsule: one skip, or those of its items
abbrev pub capsule_units : BoardValue → Delivery → ℕ × Capsule → List BootUnit
capsule_units board d (n, c) =
    if is_passed_over c then bare_unit Skip (unnumbered_key d n 0 255) c.guid ∷ []
    else flat_map (item_units board d n c.guid) (enumerate_from 0 c.items)

-- the units of what the bytes of a delivery decode to, not numbered yet: one where they are refused
abbrev pub decoded_units : BoardValue → Delivery → Option (List Capsule) → List BootUnit
decoded_units board d None = bare_unit Bad (unnumbered_key d 0 0 255) no_guid ∷ []
decoded_units board d (Some capsules) =
    flat_map (capsule_units board d) (enumerate_from 0 capsules)

-- a unit with its number in its delivery
abbrev pub numbered : ℕ × BootUnit → BootUnit
numbered (n, u) = record u { key = record u.key { unit = n } }

-- the units of a delivery, in order and numbered from 0
abbrev pub units : Formats → Delivery → BoardValue → List BootUnit
units f d board =
    map numbered (enumerate_from 0 (decoded_units board d (option_and_then f.capsules d.bytes)))
