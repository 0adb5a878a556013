-- The list of spent units, which only grows, and what is read off it. A place of the list is the
-- front of it up to there.
use Rattle.std.specs.Prelude.{ℕ, Bool, true, false, ◌==◌, ◌&&◌, not, List, []}
use Rattle.std.specs.Prelude.{length, map, filter, filter_map, slice_get, Option, None, Some}
use Rattle.std.specs.Prelude.{option_map, unwrap_or}
use Rattle.std.specs.List.{enumerate_from, last_or}
use Rattle.cu_base.specs.declared.guid.Guid.{Guid}
use Rattle.cu_base.specs.declared.time.EfiTime.{EfiTime}
use Rattle.cu_base.specs.declared.ticket.Ticket.{Ticket}
use Rattle.reference_machine.specs.declared.unit.Kind.{Kind}
use Rattle.reference_machine.specs.declared.unit.UnitKey.{UnitKey}
use Rattle.reference_machine.specs.declared.unit.End.{End}
use Rattle.reference_machine.specs.declared.unit.End.TheVariants.{Refused, Sealed, Kept, Lost}
use Rattle.bench_model.specs.Boards.{BoardValue}
use Rattle.bench_model.specs.Devices.{DeviceValue}
use Rattle.report_tables.specs.Entries.{greatest}
use Rattle.reference_machine.specs.Formats.{ItemHead}

-- an element is open, or closed with its end at a moment. A unit that tries nothing has no end.
pub data Standing : Type 0 where
  Open : Standing
  Closed : (end : Option End) → (at : EfiTime) → Standing

-- a spent unit, with version, floor, dependency section and payload of its image, which are 0 and
-- empty where there is none
pub record Element : Type 0 where
  pub kind : Kind
  pub key : UnitKey
  pub capsule : Guid
  pub head : ItemHead
  pub version : ℕ
  pub floor : ℕ
  pub dependency : List ℕ
  pub payload : List ℕ
  pub standing : Standing

-- it is open
abbrev pub is_standing_open : Standing → Bool
is_standing_open Open = true
is_standing_open (Closed end at) = false

-- an element is open
abbrev pub is_open : Element → Bool
is_open e = is_standing_open e.standing

-- an element is closed
abbrev pub is_closed : Element → Bool
is_closed e = not (is_open e)

-- the end of what is closed by one
abbrev pub end_in : Standing → Option End
end_in Open = None
end_in (Closed end at) = end

-- how an element ended, none where it is open or tried nothing
abbrev pub end_of : Element → Option End
end_of e = end_in e.standing

-- the end is Sealed
abbrev pub is_sealed_end : Option End → Bool
is_sealed_end (Some Sealed) = true
is_sealed_end (Some (Refused status)) = false
is_sealed_end (Some Kept) = false
is_sealed_end (Some Lost) = false
is_sealed_end None = false

-- an element ended by Sealed
abbrev pub is_sealed : Element → Bool
is_sealed e = is_sealed_end (end_of e)

-- an attempt may have started a SetImage: it is open, or ended by Sealed, Kept or Lost
abbrev pub is_attempted : Standing → Bool
is_attempted Open = true
is_attempted (Closed None at) = false
is_attempted (Closed (Some (Refused status)) at) = false
is_attempted (Closed (Some Sealed) at) = true
is_attempted (Closed (Some Kept) at) = true
is_attempted (Closed (Some Lost) at) = true

-- an element is an attempt
abbrev pub is_attempt : Element → Bool
is_attempt e = is_attempted e.standing

-- an element is on a device
abbrev pub is_on : ℕ → Element → Bool
is_on d e = e.key.device == d

-- the floors of all images that were sealed on a device
abbrev pub sealed_floors : List Element → ℕ → List ℕ
sealed_floors list d = map (λ e. e.floor) (filter (λ e. is_on d e && is_sealed e) list)

-- the floor that a device leaves the factory with
abbrev pub factory_floor : BoardValue → ℕ → ℕ
factory_floor board d = unwrap_or (option_map (λ x. x.floor) (slice_get board.devices d)) 0

-- the floor in force of a device: the greatest of its factory floor and the floors of all images
-- sealed on it
abbrev pub floor_of : BoardValue → List Element → ℕ → ℕ
floor_of board list d = greatest (factory_floor board d) (sealed_floors list d)

-- what a device holds: who wrote it, its version, floor, dependency section and payload
pub record Image : Type 0 where
  pub ticket : Ticket
  pub version : ℕ
  pub floor : ℕ
  pub dependency : List ℕ
  pub payload : List ℕ

-- the image that a device leaves the factory with, under the ticket of route 255
abbrev pub factory_image : DeviceValue → Image
factory_image d = record {
  ticket = record { route = 255; capsule = 0; item = 0; serial = 0 };
  version = d.version;
  floor = d.floor;
  dependency = [];
  payload = [];
}

-- the image that an element tries
abbrev pub image_tried : Element → Image
image_tried e = record {
  ticket = e.key.ticket;
  version = e.version;
  floor = e.floor;
  dependency = e.dependency;
  payload = e.payload;
}

-- what an end leaves of an image on a device: after Sealed the image, after Lost no image; any
-- other leaves the device as it was
abbrev pub left_by : Image → Option End → Option (Option Image)
left_by image (Some Sealed) = Some (Some image)
left_by image (Some Lost) = Some None
left_by image (Some Kept) = None
left_by image (Some (Refused status)) = None
left_by image None = None

-- what an element leaves on its device, none where it leaves it as it was
abbrev pub image_left : Element → Option (Option Image)
image_left e = left_by (image_tried e) (end_of e)

-- the image of a device: the last that an element on it left, else that of the factory
abbrev pub image_of : BoardValue → List Element → ℕ → Option Image
image_of board list d =
    unwrap_or (last_or None (filter_map image_left (filter (is_on d) list)))
    (option_map factory_image (slice_get board.devices d))

-- the version of a device's image, 0 where it has none
abbrev pub version_of : BoardValue → List Element → ℕ → ℕ
version_of board list d = unwrap_or (option_map (λ i. i.version) (image_of board list d)) 0

-- the dependency section of a device's image, empty where it has none
abbrev pub dependency_of : BoardValue → List Element → ℕ → List ℕ
dependency_of board list d = unwrap_or (option_map (λ i. i.dependency) (image_of board list d)) []

-- the versions of all devices by their types, in board order
abbrev pub versions_of : BoardValue → List Element → List (Guid × ℕ)
versions_of board list =
    map (λ p. (p.1.type_id, version_of board list p.0)) (enumerate_from 0 board.devices)

-- whether a unit is of the delivery of a route and a serial
abbrev pub is_of : ℕ → ℕ → UnitKey → Bool
is_of route serial key = key.ticket.route == route && key.ticket.serial == serial

-- how many units of a file are spent: the closed elements of its serial
abbrev pub spent : List Element → ℕ → ℕ
spent list serial = length (filter (λ e. is_of 1 serial e.key && is_closed e) list)
