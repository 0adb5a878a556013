-- A boot of the reference machine, step by step. One function gives the next step from the machine
-- and from what is left of the boot; a boot is its iteration, so that each step and the machine
-- after it have a number.
use Rattle.std.specs.Prelude.{ℕ, zero, suc, Bool, false, ◌+◌, ◌*◌, ◌==◌, not, nat_lt, List, [], ◌∷◌}
use Rattle.std.specs.Prelude.{◌++◌, length, map, filter, flat_map, count_by, find, drop, Option}
use Rattle.std.specs.Prelude.{None, Some, option_map, unwrap_or, if◌then◌else◌}
use Rattle.std.specs.List.{list_any}
use Rattle.cu_base.specs.declared.time.EfiTime.{EfiTime}
use Rattle.reference_machine.specs.declared.snapshot.StagedPair.{StagedPair}
use Rattle.reference_machine.specs.declared.unit.End.{End}
use Rattle.reference_machine.specs.declared.unit.End.TheVariants.{Refused, Sealed}
use Rattle.reference_machine.specs.declared.unit.Kind.{Kind}
use Rattle.reference_machine.specs.declared.unit.Kind.TheVariants.{Try, Heal, Skip, NoTarget, Bad}
use Rattle.reference_machine.specs.declared.unit.UnitKey.{UnitKey}
use Rattle.reference_machine.specs.declared.unit.UnitLine.{UnitLine}
use Rattle.reference_machine.specs.Formats.{Parts, Formats}
use Rattle.reference_machine.specs.Deliveries.{Delivery, BootUnit, units}
use Rattle.bench_model.specs.Files.{File, has_serial}
use Rattle.reference_machine.specs.Machine.{Machine}
use Rattle.reference_machine.specs.Names.{is_taken_before}
use Rattle.reference_machine.specs.Order.{in_order}
use Rattle.reference_machine.specs.Report.{ReportValue}
use Rattle.reference_machine.specs.Results.{line_of}
use Rattle.reference_machine.specs.Spent.{Standing, Element, is_open, is_closed, spent}
use Rattle.reference_machine.specs.Spent.Standing.{Open, Closed}
use Rattle.reference_machine.specs.Verdicts.{refusal}

-- a batch of the store that a boot commits
pub data BootBatch : Type 0 where
  Settles : (kind : Kind) → (end : End) → BootBatch  -- the open element is closed with this end
  Unstages : (pair : StagedPair) → BootBatch  -- a staged delivery is taken out
  Does : (unit : BootUnit) → BootBatch  -- a unit is closed, or claimed and then settled
  Prunes : BootBatch  -- the progress of files that are gone is dropped
  Clears : BootBatch  -- the platform has taken the files that it was asked for

-- a piece of the work of a boot
pub data BootTask : Type 0 where
  Commits : (batch : BootBatch) → BootTask  -- a batch of the store
  Removes : (serial : ℕ) → BootTask  -- a file is taken out of the folder

-- a boot under way: the machine, the work that is left, and the report so far
pub record BootState : Type 0 where
  pub machine : Machine
  pub left : List BootTask
  pub report : ReportValue

-- the serials of kept progress, with that of a unit of a file
abbrev pub progress_with : List ℕ → UnitKey → List ℕ
progress_with in_progress key =
    if key.ticket.route == 1
    then if list_any (λ s. s == key.ticket.serial) in_progress then in_progress
    else in_progress ++ key.ticket.serial ∷ []
    else in_progress

-- an element of a unit, with what stands in its image's parts, and zeros and nothing where it has
-- none
abbrev pub element_with : BootUnit → Standing → Option Parts → Element
element_with u standing parts = record {
  kind = u.kind;
  key = u.key;
  capsule = u.capsule;
  head = u.head;
  version = unwrap_or (option_map (λ p. p.version) parts) 0;
  floor = unwrap_or (option_map (λ p. p.lowest) parts) 0;
  dependency = unwrap_or (option_map (λ p. p.dependency) parts) [];
  payload = unwrap_or (option_map (λ p. p.payload) parts) [];
  standing = standing;
}

-- the parts of what a unit tries: none where it tries nothing
abbrev pub parts_tried : Formats → BootUnit → Kind → Option Parts
parts_tried f u Try = f.parts u.image u.head.support
parts_tried f u Heal = None
parts_tried f u Skip = None
parts_tried f u NoTarget = None
parts_tried f u Bad = None

-- the element of a unit
abbrev pub element_of : Formats → BootUnit → Standing → Element
element_of f u standing = element_with u standing (parts_tried f u u.kind)

-- the machine with one more spent unit
abbrev pub with_element : Machine → Element → Machine
with_element m e = record m {
  list = m.list ++ e ∷ [];
  in_progress = progress_with m.in_progress e.key;
  batches = m.batches + 1;
}

-- the machine with one more claim: of this no progress is stored
abbrev pub with_claim : Machine → Element → Machine
with_claim m e = record m { list = m.list ++ e ∷ []; batches = m.batches + 1 }

-- an open element, closed; a closed one as it is
abbrev pub closed_with : End → EfiTime → Element → Element
closed_with end now e = if is_open e then record e { standing = Closed (Some end) now } else e

-- the machine with this open element closed, where there is one
abbrev pub settled_with : Machine → End → Option Element → Machine
settled_with m end None = m
settled_with m end (Some e) = record m {
  list = map (closed_with end m.now) m.list;
  in_progress = progress_with m.in_progress e.key;
  batches = m.batches + 1;
}

-- the machine with its open element closed
abbrev pub settled : Machine → End → Machine
settled m end = settled_with m end (find is_open m.list)

-- how an element is closed, or that it is claimed: a try that no check refuses is
pub data Course : Type 0 where
  Claim : Course
  Close : (end : Option End) → Course

-- a try is claimed where no check refuses it, else closed as refused
abbrev pub course_of_try : Option ℕ → Course
course_of_try None = Claim
course_of_try (Some status) = Close (Some (Refused status))

-- the course of a unit by its kind
abbrev pub course_of : Formats → Machine → BootUnit → Kind → Course
course_of f m u Try = course_of_try (refusal f m u)
course_of f m u Heal = Close None
course_of f m u Skip = Close None
course_of f m u NoTarget = Close None
course_of f m u Bad = Close None

-- the report after one more step
abbrev pub one_step : ReportValue → ReportValue
one_step r = record r { steps = r.steps + 1 }

-- the report after a step that adds lines
abbrev pub with_lines : ReportValue → List UnitLine → ReportValue
with_lines r lines = record r { steps = r.steps + 1; lines = r.lines ++ lines }

-- the line of the next element to be closed
abbrev pub next_line : Machine → Kind → Element → UnitLine
next_line m kind e = line_of m.board kind (count_by is_closed m.list) e

-- the boot after the step of a unit
abbrev pub after_unit : Formats → BootState → BootUnit → List BootTask → Course → BootState
after_unit f b u rest Claim = record {
  machine = with_claim b.machine (element_of f u Open);
  left = Commits (Settles Try Sealed) ∷ rest;
  report = one_step b.report;
}
after_unit f b u rest (Close end) = record {
  machine = with_element b.machine e;
  left = rest;
  report = with_lines b.report (next_line b.machine u.kind e ∷ []);
}
  where
    e : Element
    e = element_of f u (Closed end b.machine.now)

-- whether a file of the folder has the serial
abbrev pub is_file : List File → ℕ → Bool
is_file files serial = has_serial serial files

-- the boot after a batch, with the rest of its work
abbrev pub after_batch : Formats → BootState → BootBatch → List BootTask → BootState
after_batch f b (Settles kind end) rest = record {
  machine = settled b.machine end;
  left = rest;
  report = with_lines b.report
      (map (λ e. next_line b.machine kind (closed_with end b.machine.now e))
      (filter is_open b.machine.list));
}
after_batch f b (Unstages p) rest = record {
  machine = record b.machine {
    staged = filter (λ q. not (q.serial == p.serial)) b.machine.staged;
    batches = b.machine.batches + 1;
  };
  left = rest;
  report = record b.report {
    steps = b.report.steps + 1;
    unstaged = b.report.unstaged ++ p.serial ∷ [];
  };
}
after_batch f b (Does u) rest = after_unit f b u rest (course_of f b.machine u u.kind)
after_batch f b Prunes rest = record {
  machine = record b.machine {
    in_progress = filter (is_file b.machine.files) b.machine.in_progress;
    batches = b.machine.batches + 1;
  };
  left = rest;
  report = one_step b.report;
}
after_batch f b Clears rest = record {
  machine = record b.machine {
    is_signalled = false;
    in_progress = [];
    batches = b.machine.batches + 1;
  };
  left = rest;
  report = one_step b.report;
}

-- the boot after a file is taken out of the folder
abbrev pub after_removal : BootState → ℕ → List BootTask → BootState
after_removal b serial rest = record {
  machine = record b.machine { files = filter (λ x. not (x.serial == serial)) b.machine.files };
  left = rest;
  report = record b.report {
    steps = b.report.steps + 1;
    removed = b.report.removed ++ serial ∷ [];
  };
}

-- the next step of a boot and the machine after it; a boot that has nothing left stays as it is
abbrev pub after : Formats → BootState → List BootTask → BootState
after f b [] = b
after f b (Commits batch ∷ rest) = after_batch f b batch rest
after f b (Removes serial ∷ rest) = after_removal b serial rest

-- the boot after its next step
abbrev pub next : Formats → BootState → BootState
next f b = after f b b.left

-- the boot after so many steps
abbrev pub after_steps : Formats → ℕ → BootState → BootState
after_steps f zero b = b
after_steps f (suc n) b = next f (after_steps f n b)

-- a staged delivery: the bytes behind its scatter list
abbrev pub memory_delivery : Formats → Machine → StagedPair → Delivery
memory_delivery f m p = record {
  route = 0;
  serial = p.serial;
  name = [];
  bytes = f.coalesced m.memory p.address;
}

-- the delivery of a file
abbrev pub file_delivery : File → Delivery
file_delivery x = record { route = 1; serial = x.serial; name = x.name; bytes = Some x.bytes }

-- the staged deliveries by rising serial
abbrev pub staged_in_order : Machine → List StagedPair
staged_in_order m = in_order (λ a b. nat_lt a.serial b.serial) m.staged

-- the files by their upper-cased names
abbrev pub files_in_order : Machine → List File
files_in_order m = in_order (λ a b. is_taken_before a.name b.name) m.files

-- the work on units: each is done
abbrev pub unit_tasks : List BootUnit → List BootTask
unit_tasks us = map (λ u. Commits (Does u)) us

-- the work on a staged delivery: it is taken out, and then its units are done
abbrev pub pair_tasks : Formats → Machine → StagedPair → List BootTask
pair_tasks f m p = Commits (Unstages p) ∷ unit_tasks (units f (memory_delivery f m p) m.board)

-- the work on all staged deliveries
abbrev pub staged_tasks : Formats → Machine → List BootTask
staged_tasks f m = flat_map (pair_tasks f m) (staged_in_order m)

-- the work on a file: its units that are not spent yet are done, and then it is removed
abbrev pub file_tasks : Formats → Machine → File → List BootTask
file_tasks f m x =
    unit_tasks (drop (spent m.list x.serial) (units f (file_delivery x) m.board))
    ++ Removes x.serial ∷ []

-- progress is dropped where it is of a file that is gone
abbrev pub prune_tasks : Machine → List BootTask
prune_tasks m =
    if list_any (λ s. not (is_file m.files s)) m.in_progress then Commits Prunes ∷ [] else []

-- the work on the folder, where the platform was asked for it
abbrev pub folder_tasks : Formats → Machine → List BootTask
folder_tasks f m =
    if m.is_signalled
    then prune_tasks m ++ flat_map (file_tasks f m) (files_in_order m) ++ Commits Clears ∷ []
    else []

-- the work of a boot that finds this element open, or none
abbrev pub tasks_with : Formats → Machine → End → Option Element → List BootTask
tasks_with f m h None = staged_tasks f m ++ folder_tasks f m
tasks_with f m h (Some e) =
    Commits (Settles Heal h) ∷ staged_tasks f (settled m h) ++ folder_tasks f (settled m h)

-- the work of a boot. An element that an earlier boot left open is settled first, by what the
-- device holds (h).
abbrev pub boot_tasks : Formats → Machine → End → List BootTask
boot_tasks f m h = tasks_with f m h (find is_open m.list)

-- a boot before its first step
abbrev pub boot_start : Formats → Machine → End → BootState
boot_start f m h = record {
  machine = m;
  left = boot_tasks f m h;
  report = record {
    opened = Some m.batches;
    steps = 0;
    lines = [];
    unstaged = [];
    removed = [];
    pending = None;
  };
}

-- the boot after j steps
abbrev pub boot_at : Formats → Machine → End → ℕ → BootState
boot_at f m h j = after_steps f j (boot_start f m h)

-- the whole boot: no piece of work takes more than two steps
abbrev pub boot_of : Formats → Machine → End → BootState
boot_of f m h = boot_at f m h (2 * length (boot_tasks f m h))
