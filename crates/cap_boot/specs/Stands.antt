-- What a bench stands for: a machine of which the store holds all that is stored, the slots hold
-- the images, and folder, memory and begun tickets are the machine's.
use Rattle.std.specs.Prelude.{◌≡◌, ◌⊎◌, ℕ, ◌+◌, ◌<◌, ◌&&◌, true, List, length, find, Option, None}
use Rattle.std.specs.Prelude.{Some, option_map}
use Rattle.bench_model.specs.Bench.{AreImages, BenchValue, Contents, region_at, region_of}
use Rattle.bench_model.specs.Boards.{BoardValue}
use Rattle.bench_model.specs.Regions.{IsImage, IsStable}
use Rattle.cu_base.specs.declared.ticket.Ticket.{Ticket}
use Rattle.cu_base.specs.declared.time.EfiTime.{EfiTime}
use Rattle.fmp_slot.specs.Held.{HeldSlot}
use Rattle.reference_machine.specs.Events.{IsIn}
use Rattle.reference_machine.specs.Formats.{Formats}
use Rattle.reference_machine.specs.Machine.{Machine, folder_of}
use Rattle.reference_machine.specs.Spent.{Element, Image, image_of, image_tried, is_on, is_open}
use Rattle.reference_machine.specs.Verdicts.{capacity_of}
use Rattle.stored_vars.specs.Stands.{Stores}
use Rattle.var_log.specs.Banks.{StoreValue, store_of}
use Rattle.var_log.specs.Logs.{HasBanks}
use Rattle.cap_boot.specs.Tickets.{AreBegun}

-- what a boot is given: how bytes are read, the board, the moment, and what the bytes of a device's
-- region hold
pub record Setting : Type 0 where
  pub formats : Formats
  pub board : BoardValue
  pub now : EfiTime
  pub slot_of : List ℕ → Option HeldSlot

-- the image that a sealed slot holds
abbrev pub image_held : HeldSlot → Image
image_held s = record {
  ticket = s.head.ticket;
  version = s.head.version;
  floor = s.head.floor;
  dependency = s.dep;
  payload = s.payload;
}

-- the image that the bytes of a region hold, none where the slot is unsealed
abbrev pub image_in : (List ℕ → Option HeldSlot) → List ℕ → Option Image
image_in slot_of bytes = option_map image_held (slot_of bytes)

-- the open element on a device
abbrev pub open_on : List Element → ℕ → Option Element
open_on list d = find (λ e. is_open e && is_on d e) list

-- what a device may hold over what it held before: just this, and while an element is open also no
-- image, or the element's
abbrev pub MayHold : Option Image → Option Element → Option Image → Type 0
MayHold before None image = image ≡ before
MayHold before (Some e) image = (image ≡ before) ⊎ (image ≡ None) ⊎ (image ≡ Some (image_tried e))

-- the device's slot is the machine's
abbrev pub SlotFits : Machine → ℕ → Option Image → Type 0
SlotFits m d image = MayHold (image_of m.board m.list d) (open_on m.list d) image

-- the ticket of an open element was begun where the slot is not the image of before any more
abbrev pub TellsOpen : List Ticket → Option Image → Option Element → Option Image → Type 0
TellsOpen begun before None image = Unit {0}
TellsOpen begun before (Some e) image = (image ≡ before) ⊎ IsIn e.key.ticket begun

-- the tickets that were begun on a device are the machine's
pub record BegunFits (m : Machine) (d : ℕ) (begun : List Ticket)
    (image : Option Image) : Type 0 where
  pub are : AreBegun m.board m.list d begun
  pub tells : TellsOpen begun (image_of m.board m.list d) (open_on m.list d) image

-- a device is that of the machine, by the bytes of its region and by its tickets
pub record DeviceFits (slot_of : List ℕ → Option HeldSlot) (m : Machine) (d : ℕ)
    (tickets : List Ticket) (bytes : List ℕ) : Type 0 where
  pub slot : SlotFits m d (image_in slot_of bytes)
  pub begun : BegunFits m d tickets (image_in slot_of bytes)

-- the store is that of the machine
abbrev pub StoreFits : Option StoreValue → Machine → Type 0
StoreFits None m = ⊥
StoreFits (Some s) m = Stores s m

-- an image, with what else the bench holds, stands for the machine
pub record StandsIn (x : Setting) (image : ℕ → List ℕ) (s : Contents) (m : Machine) : Type 0 where
  pub board : m.board ≡ x.board
  pub store : StoreFits (store_of image) m
  pub devices : (d : ℕ) → d < length x.board.devices
      → DeviceFits x.slot_of m d (s.rest.begun d) (image (region_of d))
  pub folder : s.rest.folder ≡ folder_of m
  pub memory : s.rest.memory ≡ m.memory

-- all but the store is that of the machine, in every image
pub record OutsideIs (x : Setting) (s : Contents) (m : Machine) : Type 0 where
  pub board : m.board ≡ x.board
  pub devices : (d : ℕ) → d < length x.board.devices → (bytes : List ℕ)
      → IsImage (region_at s (region_of d)) bytes
      → DeviceFits x.slot_of m d (s.rest.begun d) bytes
  pub folder : s.rest.folder ≡ folder_of m
  pub memory : s.rest.memory ≡ m.memory

-- the store as read, and every image of all else, stand for the machine
pub record ReadsAs (x : Setting) (s : Contents) (m : Machine) : Type 0 where
  pub told : s.told ≡ true
  pub store : StoreFits (store_of s.bytes) m
  pub outside : OutsideIs x s m

-- each image stands for one of two machines; what is not of the store stands for both
pub record StandsForEither (x : Setting) (s : Contents) (m n : Machine) : Type 0 where
  pub told : s.told ≡ true
  pub stores : (image : ℕ → List ℕ) → AreImages s image
      → StoreFits (store_of image) m ⊎ StoreFits (store_of image) n
  pub before : OutsideIs x s m
  pub after : OutsideIs x s n

-- no place of any region is dirty
abbrev pub IsClean : Contents → Type 0
IsClean s = (k : ℕ) → k < s.regions → IsStable (region_at s k)

-- the bench has the board's regions: two banks, and one for each device by its capacity
pub record HasRegions (size_of : ℕ → ℕ) (board : BoardValue) (b : BenchValue) : Type 0 where
  pub banks : HasBanks b
  pub count : b.contents.regions ≡ 2 + length board.devices
  pub devices : (d : ℕ) → d < length board.devices
      → length (b.contents.bytes (region_of d)) ≡ size_of (capacity_of board d)

-- the regions and their lengths stay, and no order was given
pub record KeepsRegions (old new : BenchValue) : Type 0 where
  pub told : new.contents.told ≡ old.contents.told
  pub count : new.contents.regions ≡ old.contents.regions
  pub long : (k : ℕ) → length (new.contents.bytes k) ≡ length (old.contents.bytes k)
  pub orders : new.orders ≡ old.orders
