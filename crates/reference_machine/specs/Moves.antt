-- How many moves and looks a boot makes at most, finished or stopped, and how many moves calls make
-- on which nothing fails. Moves are the writes, syncs, begins and ends of the flash; looks are what
-- only reads.
use Rattle.std.specs.Prelude.{ℕ, ◌+◌, ◌-◌, ◌*◌, ◌/◌, Bool, true, false, List, [], ◌∷◌, length}
use Rattle.std.specs.Prelude.{filter, find, drop, sum_by, count_by, Option, None, Some, option_map}
use Rattle.std.specs.Prelude.{unwrap_or}
use Rattle.reference_machine.specs.declared.event.Event.{Event}
use Rattle.reference_machine.specs.declared.event.Event.TheVariants.{Time, Drop, Signal, Lay, Poke}
use Rattle.reference_machine.specs.declared.event.Event.TheVariants.{Stage, Boot, Arm, Fail, Reset}
use Rattle.reference_machine.specs.declared.event.Event.TheVariants.{Show}
use Rattle.reference_machine.specs.Boots.{BootBatch, BootTask, BootState, element_of}
use Rattle.reference_machine.specs.Boots.BootBatch.{Settles, Unstages, Does, Prunes, Clears}
use Rattle.reference_machine.specs.Boots.BootTask.{Commits, Removes}
use Rattle.reference_machine.specs.Deliveries.{BootUnit}
use Rattle.reference_machine.specs.Formats.{Formats}
use Rattle.reference_machine.specs.Machine.{Machine}
use Rattle.reference_machine.specs.Report.{ReportValue}
use Rattle.reference_machine.specs.Spent.{Element, is_attempt, is_closed, is_open}
use Rattle.reference_machine.specs.Spent.Standing.{Open}

-- how many pieces of 65,536 bytes a payload of so many bytes starts
abbrev pub pieces_started : ℕ → ℕ
pieces_started n = (n + 65535) / 65536

-- the elements that were closed between a list and a later one, in order
abbrev pub closed_since : List Element → List Element → List Element
closed_since old new = drop (length (filter is_closed old)) (filter is_closed new)

-- the unit that a batch does, else a later one
abbrev pub unit_of_batch : BootBatch → Option BootUnit → Option BootUnit
unit_of_batch (Settles kind end) later = later
unit_of_batch (Unstages pair) later = later
unit_of_batch (Does unit) later = Some unit
unit_of_batch Prunes later = later
unit_of_batch Clears later = later

-- the first unit of the work that is left
abbrev pub first_unit : List BootTask → Option BootUnit
first_unit [] = None
first_unit (Commits batch ∷ rest) = unit_of_batch batch (first_unit rest)
first_unit (Removes serial ∷ rest) = first_unit rest

-- the element of the line that comes next: the open one, else that of the first unit that is left
abbrev pub element_in_hand : Formats → List BootTask → Option Element → Option Element
element_in_hand f left (Some e) = Some e
element_in_hand f left None = option_map (λ u. element_of f u Open) (first_unit left)

-- the most moves for a line of the report: 64, and one for each started piece of the payload of the
-- element that the line tells of
abbrev pub line_moves : Element → ℕ
line_moves e = 64 + pieces_started (length e.payload)

-- the most moves for the line that comes next, where one does
abbrev pub moves_in_hand : Formats → BootState → ℕ
moves_in_hand f b =
    unwrap_or (option_map line_moves (element_in_hand f b.left (find is_open b.machine.list))) 0

-- the most moves of a boot of a machine that came to a state: for its devices, for each line of its
-- report, and for the line that comes next
abbrev pub move_bound : Formats → Machine → BootState → ℕ
move_bound f m b =
    128 + 16 * length m.board.devices + sum_by line_moves (closed_since m.list b.machine.list)
    + moves_in_hand f b

-- the most looks of a boot of a machine with a report
abbrev pub look_bound : Machine → ReportValue → ℕ
look_bound m r = 8192 + 4096 * (length r.lines + length m.files)

-- what calls did on which nothing failed, as far as it costs moves
pub record PlainWork : Type 0 where
  pub openings : ℕ  -- how often the store was opened
  pub devices : ℕ  -- how many devices were looked after: all of them for each boot
  pub batches : ℕ  -- how many batches the store took
  pub generations : ℕ  -- how many generations the store rose
  pub claims : List Element  -- the attempts that were claimed

-- the moves of such calls
abbrev pub plain_moves : PlainWork → ℕ
plain_moves w =
    2 * w.openings + w.devices + 4 * w.batches + 6 * w.generations
    + sum_by (λ e. 8 + pieces_started (length e.payload)) w.claims

-- an event opens the store
abbrev pub opens_store : Event → Bool
opens_store (Time moment) = false
opens_store (Drop file input) = false
opens_store Signal = true
opens_store (Lay address input) = false
opens_store (Poke address bytes) = false
opens_store (Stage address) = true
opens_store Boot = true
opens_store (Arm after choice) = false
opens_store (Fail nth) = false
opens_store (Reset cold) = false
opens_store Show = true

-- an event is a boot
abbrev pub is_boot : Event → Bool
is_boot (Time moment) = false
is_boot (Drop file input) = false
is_boot Signal = false
is_boot (Lay address input) = false
is_boot (Poke address bytes) = false
is_boot (Stage address) = false
is_boot Boot = true
is_boot (Arm after choice) = false
is_boot (Fail nth) = false
is_boot (Reset cold) = false
is_boot Show = false

-- the work of events that led from one machine to another, while the store rose so many generations
abbrev pub work_of : List Event → Machine → Machine → ℕ → PlainWork
work_of events old new generations = record {
  openings = count_by opens_store events;
  devices = count_by is_boot events * length old.board.devices;
  batches = new.batches - old.batches;
  generations = generations;
  claims = filter is_attempt (drop (length old.list) new.list);
}
