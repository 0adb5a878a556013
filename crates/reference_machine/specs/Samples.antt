-- Samples of what the definitions say: a board of three devices, of which two have one type, and
-- what stands in it.
use Rattle.std.specs.Prelude.{ℕ, Bool, true, false, ◌==◌, nat_lt, List, [], ◌∷◌, map, codes, find}
use Rattle.std.specs.Prelude.{unwrap_or, Option, None, Some, option_map}
use Rattle.std.specs.List.{range_with_len}
use Rattle.bench_model.specs.declared.segment.Segment.{Segment}
use Rattle.cu_base.specs.declared.guid.Guid.{Guid}
use Rattle.bench_model.specs.Boards.{BoardValue}
use Rattle.bench_model.specs.Devices.{DeviceValue}
use Rattle.reference_machine.specs.declared.snapshot.CapsuleResult.{CapsuleResult}
use Rattle.report_tables.specs.declared.esrt.EsrtEntry.{EsrtEntry}
use Rattle.reference_machine.specs.declared.event.Event.{Event}
use Rattle.reference_machine.specs.declared.event.Event.TheVariants.{Poke, Stage, Boot, Reset}
use Rattle.reference_machine.specs.declared.unit.End.{End}
use Rattle.reference_machine.specs.declared.unit.End.TheVariants.{Refused, Sealed, Lost}
use Rattle.reference_machine.specs.declared.unit.Kind.{Kind}
use Rattle.reference_machine.specs.declared.unit.Kind.TheVariants.{Try, Skip, NoTarget}
use Rattle.reference_machine.specs.declared.unit.UnitKey.{UnitKey}
use Rattle.reference_machine.specs.Boots.{boot_at, boot_of}
use Rattle.reference_machine.specs.Deliveries.{Delivery, fmp_guid, no_head, units}
use Rattle.reference_machine.specs.Events.{machine_after, snapshot_of}
use Rattle.reference_machine.specs.Formats.{Formats, ItemHead, Item, Capsule}
use Rattle.reference_machine.specs.Machine.{Machine, first_moment, fresh}
use Rattle.reference_machine.specs.Moves.{PlainWork, move_bound, plain_moves, work_of}
use Rattle.reference_machine.specs.Order.{in_order}
use Rattle.reference_machine.specs.Spent.{Element, Standing, version_of}
use Rattle.reference_machine.specs.Spent.Standing.{Open, Closed}
use Rattle.reference_machine.specs.Verdicts.{keeps_dependencies}

-- a GUID with this first byte and zeros behind it
abbrev pub guid_of : ℕ → Guid
guid_of n = record { bytes = n ∷ 0 ∷ 0 ∷ 0 ∷ 0 ∷ 0 ∷ 0 ∷ 0 ∷ 0 ∷ 0 ∷ 0 ∷ 0 ∷ 0 ∷ 0 ∷ 0 ∷ 0 ∷ [] }

-- the system firmware, of type 1
abbrev pub system : DeviceValue
system = record {
  name = codes "sys";
  type_id = guid_of 1;
  index = 1;
  instance = 0;
  fw_type = 1;
  capacity = 4;
  version = 3;
  floor = 2;
  flags = 0;
}

-- the first of two controllers of type 2
abbrev pub first_controller : DeviceValue
first_controller = record {
  name = codes "ec0";
  type_id = guid_of 2;
  index = 2;
  instance = 5;
  fw_type = 2;
  capacity = 4;
  version = 7;
  floor = 7;
  flags = 1;
}

-- the second one
abbrev pub second_controller : DeviceValue
second_controller = record {
  name = codes "ec1";
  type_id = guid_of 2;
  index = 2;
  instance = 6;
  fw_type = 2;
  capacity = 4;
  version = 9;
  floor = 5;
  flags = 0;
}

-- a board of these, with result variables of the numbers 0 to 2
abbrev pub three_devices : BoardValue
three_devices =
    record {
      bank = 65536;
      store = 2;
      two_banks = false;
      result_max = 2;
      digests = [];
      devices = system ∷ first_controller ∷ second_controller ∷ [];
    }

-- the header of an item for type 2: its version, index and instance
abbrev pub head_of : ℕ → ℕ → ℕ → ItemHead
head_of version index instance = record {
  version = version;
  type_id = guid_of 2;
  index = index;
  instance = instance;
  support = 0;
}

-- items for any instance, for one instance, for one under header version 2, for one under version
-- 1, which has no such field, for an instance that is not there, and for another index
abbrev pub sample_heads : List ItemHead
sample_heads =
    head_of 3 2 0 ∷ head_of 3 2 6 ∷ head_of 2 2 6 ∷ head_of 1 2 6 ∷ head_of 2 2 4
    ∷ head_of 3 1 0 ∷ []

-- an item of a type that no device has
abbrev pub stray_item : Item
stray_item = record { head = record (head_of 3 2 0) { type_id = guid_of 9 }; image = [] }

-- an item for both controllers
abbrev pub controller_item : Item
controller_item = record { head = head_of 3 2 0; image = [] }

-- a capsule of a GUID, with a number of drivers and with items
abbrev pub capsule_of : Guid → ℕ → List Item → Capsule
capsule_of guid drivers items = record { guid = guid; drivers = drivers; items = items }

-- a capsule with items for both controllers and for none, one of another GUID, one with a driver,
-- and one without items
abbrev pub sample_capsules : List Capsule
sample_capsules =
    capsule_of fmp_guid 0 (controller_item ∷ stray_item ∷ [])
    ∷ capsule_of (guid_of 8) 0 (controller_item ∷ [])
    ∷ capsule_of fmp_guid 1 (controller_item ∷ [])
    ∷ capsule_of fmp_guid 0 []
    ∷ []

-- what the sample formats read: no bytes are refused, any others are the sample capsules
abbrev pub sample_read : List ℕ → Option (List Capsule)
sample_read [] = None
sample_read (x ∷ xs) = Some sample_capsules

-- a section of two numbers: the first version of this type is below that version
abbrev pub is_below : List ℕ → List (Guid × ℕ) → Bool
is_below [] versions = false
is_below (guid ∷ []) versions = false
is_below (guid ∷ version ∷ rest) versions =
    unwrap_or (option_map (λ p. nat_lt p.1 version) (find (λ p. first_is p.0.bytes) versions)) false
  where
    first_is : List ℕ → Bool
    first_is [] = false
    first_is (x ∷ xs) = x == guid

-- the bytes behind a scatter list: those of the first segment that is laid
abbrev pub first_segment : List Segment → Option (List ℕ)
first_segment [] = None
first_segment (s ∷ ss) = Some s.bytes

-- formats of the samples
abbrev pub sample_formats : Formats
sample_formats = record {
  capsules = sample_read;
  parts = λ image support. None;
  is_satisfied = is_below;
  coalesced = λ memory address. first_segment memory;
}

-- the key of a unit of a delivery by file
abbrev pub key_of : ℕ → ℕ → ℕ → ℕ → UnitKey
key_of capsule item unit device = record {
  ticket = record { route = 1; capsule = capsule; item = item; serial = 1 };
  unit = unit;
  device = device;
  name = codes "a.cap";
}

-- kind and key of each unit of a delivery
abbrev pub units_told : Option (List ℕ) → List (Kind × UnitKey)
units_told bytes = map (λ u. (u.kind, u.key)) (units sample_formats delivery three_devices)
  where
    delivery : Delivery
    delivery = record { route = 1; serial = 1; name = codes "a.cap"; bytes = bytes }

-- an attempt on a device, of a version and floor, with a section, open or closed
abbrev pub attempt_on : ℕ → ℕ → ℕ → List ℕ → Standing → Element
attempt_on device version floor section standing = record {
  kind = Try;
  key = key_of 0 0 device device;
  capsule = fmp_guid;
  head = head_of 3 2 0;
  version = version;
  floor = floor;
  dependency = section;
  payload = [];
  standing = standing;
}

-- closed by an end at the first moment
abbrev pub ended : End → Standing
ended end = Closed (Some end) first_moment

-- the first controller took version 8, the second refused version 4, and the system lost its image
-- to version 4
abbrev pub sample_list : List Element
sample_list =
    attempt_on 1 8 6 [] (ended Sealed) ∷ attempt_on 2 4 0 [] (ended (Refused 3))
    ∷ attempt_on 0 4 0 [] (ended Lost) ∷ []

-- a capsule that was passed over, behind these
abbrev pub passed_over : Element
passed_over = record {
  kind = Skip;
  key = key_of 1 0 3 255;
  capsule = guid_of 8;
  head = no_head;
  version = 0;
  floor = 0;
  dependency = [];
  payload = [];
  standing = Closed None first_moment;
}

-- an item without a target, behind these
abbrev pub without_target : Element
without_target = record passed_over {
  kind = NoTarget;
  key = key_of 0 1 4 255;
  capsule = fmp_guid;
  head = head_of 3 2 0;
}

-- what the table is to show: the system lost its image; of the controllers the least version, the
-- greatest floor, the flags of the first, and the attempt that failed
abbrev pub sample_esrt : List EsrtEntry
sample_esrt =
    record {
      class = guid_of 1;
      fw_type = 1;
      version = 0;
      lowest = 2;
      flags = 0;
      last_version = 4;
      last_status = 1;
    }
    ∷ record {
      class = guid_of 2;
      fw_type = 2;
      version = 8;
      lowest = 7;
      flags = 1;
      last_version = 4;
      last_status = 3;
    }
    ∷ []

-- a machine with these spent units
abbrev pub machine_with : List Element → Machine
machine_with list = record (fresh three_devices) { list = list }

-- status and target of the result of an element: none where it has no part on a payload
abbrev pub result_told : CapsuleResult → ℕ × ℕ × Option (List ℕ)
result_told r =
    (r.number, r.variable.status.code, option_map (λ p. p.target) r.variable.fmp)

-- an attempt on the first controller that a boot finds open, and how the boot closes it: the line's
-- kind and status, and the version that the device has then
abbrev pub healed : End → List (Kind × ℕ × ℕ)
healed end = map
    (λ l. (l.kind, l.status.code, version_of three_devices done.machine.list 1)) done.report.lines
  where
    done : Rattle.reference_machine.specs.Boots.BootState
    done = boot_of sample_formats (machine_with (attempt_on 1 8 6 [] Open ∷ [])) end

-- the system's image asks for a controller below a version; whether an update of a controller keeps
-- what holds
abbrev pub keeps_it : ℕ → ℕ → ℕ → Bool
keeps_it below device version =
    keeps_dependencies sample_formats
    (machine_with (attempt_on 0 4 0 (2 ∷ below ∷ []) (ended Sealed) ∷ [])) device
    (record { version = version; lowest = 0; dependency = []; payload = [] })

-- whether an update of the system with a section holds, on a board of its factory images
abbrev pub own_section_holds : List ℕ → Bool
own_section_holds section =
    keeps_dependencies sample_formats (machine_with []) 0
    (record { version = 4; lowest = 0; dependency = section; payload = [] })

-- a capsule header of 28 bytes with flags below 2^24 in their third byte
abbrev pub header_with : ℕ → List ℕ
header_with flag =
    8 ∷ 0 ∷ 0 ∷ 0 ∷ 0 ∷ 0 ∷ 0 ∷ 0 ∷ 0 ∷ 0 ∷ 0 ∷ 0 ∷ 0 ∷ 0 ∷ 0 ∷ 0 ∷ 28 ∷ 0 ∷ 0 ∷ 0 ∷ 0 ∷ 0 ∷ flag
    ∷ 0 ∷ 28 ∷ 0 ∷ 0 ∷ 0 ∷ []

-- a delivery is staged, and the platform boots after a reset
abbrev pub staged_before : Bool → List Event
staged_before cold = Poke 4096 (header_with 1) ∷ Stage 4096 ∷ Reset cold ∷ Boot ∷ []

-- the machine after these events
abbrev pub after_reset : Bool → Machine
after_reset cold =
    machine_after sample_formats (λ name. []) (fresh three_devices) (staged_before cold)

-- the kinds of the units that the boot spends
abbrev pub kinds_after_reset : Bool → List Kind
kinds_after_reset cold = map (λ e. e.kind) (after_reset cold).list

-- the moves of these events, of which none begins a generation of the store
abbrev pub moves_after_reset : Bool → ℕ
moves_after_reset cold =
    plain_moves (work_of (staged_before cold) (fresh three_devices) (after_reset cold) 0)

-- an open attempt on the first controller with a payload of three bytes
abbrev pub open_attempt : Element
open_attempt = record (attempt_on 1 8 6 [] Open) { payload = codes "abc" }

-- a boot in which this attempt was claimed, with five batches and a new generation of the store
abbrev pub one_claim : PlainWork
one_claim = record {
  openings = 1;
  devices = 3;
  batches = 5;
  generations = 1;
  claims = open_attempt ∷ [];
}

-- a folder of one file, of which six units are spent, none of them an attempt
abbrev pub one_file : Machine
one_file = record (fresh three_devices) {
  files = record { name = codes "a.cap"; serial = 1; bytes = 0 ∷ [] } ∷ [];
  last_file = 1;
  is_signalled = true;
}

-- the bound on the moves of a boot after each of so many numbers of steps, from none on
abbrev pub bounds_of : Machine → ℕ → List ℕ
bounds_of m n =
    map (λ j. move_bound sample_formats m (boot_at sample_formats m Sealed j)) (range_with_len 0 n)

-- two files and two staged deliveries, each pair out of order
abbrev pub waiting : Machine
waiting = record (fresh three_devices) {
  files = record { name = codes "b.cap"; serial = 1; bytes = codes "xyz" } ∷ record {
    name = codes "A.cap";
    serial = 2;
    bytes = [];
  } ∷ [];
  staged = record { serial = 2; address = 4096 } ∷ record { serial = 1; address = 8192 } ∷ [];
}

-- name and size of the files that are shown of it
abbrev pub shown_files : List (List ℕ × ℕ)
shown_files = map (λ x. (x.name, x.size)) (snapshot_of waiting).files

-- serial and address of the staged deliveries that are shown of it
abbrev pub shown_staged : List (ℕ × ℕ)
shown_staged = map (λ p. (p.serial, p.address)) (snapshot_of waiting).staged

-- pairs in the order of their first numbers
abbrev pub ordered_pairs : List (ℕ × ℕ)
ordered_pairs = in_order comes_before ((1, 7) ∷ (0, 8) ∷ (1, 9) ∷ (0, 6) ∷ [])
  where
    comes_before : ℕ × ℕ → ℕ × ℕ → Bool
    comes_before a b = nat_lt a.0 b.0
