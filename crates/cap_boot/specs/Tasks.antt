-- The work of a boot as its calls find it: by the slots, the staged deliveries and the files.
use Rattle.std.specs.Prelude.{◌≡◌, ℕ, Bool, ◌==◌, ◌&&◌, List, [], ◌∷◌, ◌++◌, map, flat_map, find}
use Rattle.std.specs.Prelude.{drop, length, option_map}
use Rattle.std.specs.Prelude.{Option, None, Some, if◌then◌else◌}
use Rattle.std.specs.List.{AllByRecursion, list_any}
use Rattle.bench_model.specs.Bench.{BenchValue, Contents, region_of}
use Rattle.bench_model.specs.Files.{File, ListedFile}
use Rattle.cu_base.specs.declared.ticket.Ticket.{Ticket}
use Rattle.reference_machine.specs.Boots.{BootTask, file_delivery, file_tasks, folder_tasks}
use Rattle.reference_machine.specs.Boots.{is_file}
use Rattle.reference_machine.specs.Boots.{memory_delivery, pair_tasks, settled_with, staged_tasks}
use Rattle.reference_machine.specs.Boots.{unit_tasks}
use Rattle.reference_machine.specs.Boots.BootBatch.{Clears, Settles, Unstages}
use Rattle.reference_machine.specs.Boots.BootTask.{Commits, Removes}
use Rattle.reference_machine.specs.Deliveries.{units}
use Rattle.reference_machine.specs.Formats.{Formats}
use Rattle.reference_machine.specs.Machine.{Machine}
use Rattle.reference_machine.specs.Spent.{Element, Image, is_open, spent}
use Rattle.reference_machine.specs.declared.snapshot.StagedPair.{StagedPair}
use Rattle.reference_machine.specs.declared.unit.End.{End}
use Rattle.reference_machine.specs.declared.unit.End.TheVariants.{Kept, Lost, Sealed}
use Rattle.reference_machine.specs.declared.unit.Kind.TheVariants.{Heal}
use Rattle.cap_boot.specs.Going.{Tasks}
use Rattle.cap_boot.specs.Stands.{Setting, image_in}

-- two tickets are equal
abbrev pub is_same_ticket : Ticket → Ticket → Bool
is_same_ticket a b =
    a.route == b.route && a.capsule == b.capsule && a.item == b.item && a.serial == b.serial

-- how an attempt of a ticket ended, by the image that its device holds
abbrev pub end_by : Ticket → Option Image → End
end_by ticket None = Lost
end_by ticket (Some image) = if is_same_ticket image.ticket ticket then Sealed else Kept

-- how an open element ended, by the bytes of its device as read
abbrev pub end_found : Setting → Contents → Element → End
end_found x s e = end_by e.key.ticket (image_in x.slot_of (s.bytes (region_of e.key.device)))

-- how the open element ended; where none is open the end decides nothing
abbrev pub end_among : Setting → Contents → Option Element → End
end_among x s None = Lost
end_among x s (Some e) = end_found x s e

-- the end by which a boot of this machine heals
abbrev pub heal_end : Setting → Contents → Machine → End
heal_end x s m = end_among x s (find is_open m.list)

-- the work that heals this open element, or none
abbrev pub heal_by : End → Option Element → List BootTask
heal_by end None = []
heal_by end (Some e) = Commits (Settles Heal end) ∷ []

-- the work that heals
abbrev pub heal_tasks : Setting → Contents → Tasks
heal_tasks x s m = heal_by (heal_end x s m) (find is_open m.list)

-- the machine once it is healed
abbrev pub healed : Setting → Contents → Machine → Machine
healed x s m = settled_with m (heal_end x s m) (find is_open m.list)

-- the work behind the heal
abbrev pub later_tasks : Formats → Tasks
later_tasks f m = staged_tasks f m ++ folder_tasks f m

-- all work of a boot
abbrev pub all_tasks : Setting → Contents → Tasks
all_tasks x s m = heal_tasks x s m ++ later_tasks x.formats (healed x s m)

-- the work on these staged deliveries
abbrev pub pairs_tasks : Formats → List StagedPair → Tasks
pairs_tasks f pairs m = flat_map (pair_tasks f m) pairs

-- the work on a staged delivery
abbrev pub pair_tasks_of : Formats → StagedPair → Tasks
pair_tasks_of f p m = pair_tasks f m p

-- the work on the units of a staged delivery
abbrev pub memory_tasks : Formats → StagedPair → Tasks
memory_tasks f p m = unit_tasks (units f (memory_delivery f m p) m.board)

-- a staged delivery is taken out
abbrev pub unstage_tasks : StagedPair → Tasks
unstage_tasks p m = Commits (Unstages p) ∷ []

-- a file is taken out of the folder
abbrev pub removal_tasks : ℕ → Tasks
removal_tasks serial m = Removes serial ∷ []

-- the platform has taken the files
abbrev pub clear_tasks : Tasks
clear_tasks m = Commits Clears ∷ []

-- the file of a serial
abbrev pub file_of : Machine → ℕ → Option File
file_of m serial = find (λ x. x.serial == serial) m.files

-- the work on a file, where it is there
abbrev pub found_tasks : Formats → Machine → Option File → List BootTask
found_tasks f m None = []
found_tasks f m (Some x) = file_tasks f m x

-- the work on the file of a serial
abbrev pub serial_tasks : Formats → ℕ → Tasks
serial_tasks f serial m = found_tasks f m (file_of m serial)

-- the work on the units of a file that are not spent yet, where it is there
abbrev pub found_unit_tasks : Formats → Machine → Option File → List BootTask
found_unit_tasks f m None = []
found_unit_tasks f m (Some x) =
    unit_tasks (drop (spent m.list x.serial) (units f (file_delivery x) m.board))

-- the same of the file of a serial
abbrev pub file_unit_tasks : Formats → ℕ → Tasks
file_unit_tasks f serial m = found_unit_tasks f m (file_of m serial)

-- the work on the files of a listing
abbrev pub files_tasks : Formats → List ListedFile → Tasks
files_tasks f files m = flat_map (λ a. serial_tasks f a.serial m) files

-- the serials of a listing
abbrev pub serials_of : List ListedFile → List ℕ
serials_of files = map (λ x. x.serial) files

-- these serials are those of the folder's files
abbrev pub ListsFiles : List ℕ → BenchValue → Type 0
ListsFiles serials b =
    (s : ℕ) → list_any (λ t. t == s) serials ≡ is_file b.contents.rest.folder.files s

-- what a listing tells of a file
abbrev pub entry_of : File → ListedFile
entry_of x = record { name = x.name; serial = x.serial; size = length x.bytes }

-- the file of its serial is in the folder and is as a listing tells it
abbrev pub TellsFile : ListedFile → BenchValue → Type 0
TellsFile a b =
    option_map entry_of (find (λ x. x.serial == a.serial) b.contents.rest.folder.files) ≡ Some a

-- the folder's files are as a listing tells them
abbrev pub HaveFiles : List ListedFile → BenchValue → Type 0
HaveFiles files b = AllByRecursion (λ a. TellsFile a b) files
