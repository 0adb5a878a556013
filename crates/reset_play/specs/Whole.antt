-- A boot by whole pieces of work: a unit that is claimed is settled at once. A boot that nothing
-- stops comes to the same.
use Rattle.std.specs.Prelude.{◌≤◌, IsTrue, true, length, List, [], ◌∷◌, ◌++◌, Bool, Option, None}
use Rattle.std.specs.Prelude.{Some, ◌==◌, map, not, if◌then◌else◌}
use Rattle.std.specs.List.{list_all}
use Rattle.bench_model.specs.Boards.{BoardValue}
use Rattle.bench_model.specs.declared.outside_limits.TheConstants.{MAX_FILES}
use Rattle.reference_machine.specs.declared.report.Report.{Report}
use Rattle.reference_machine.specs.declared.unit.End.TheVariants.{Sealed}
use Rattle.reference_machine.specs.declared.unit.Kind.TheVariants.{Try, Heal}
use Rattle.reference_machine.specs.declared.unit.UnitKey.{UnitKey}
use Rattle.reference_machine.specs.Boots.{BootTask, BootState, after, next}
use Rattle.reference_machine.specs.Boots.BootBatch.{Settles, Does}
use Rattle.reference_machine.specs.Boots.BootTask.{Commits, Removes}
use Rattle.reference_machine.specs.Deliveries.{BootUnit, fmp_guid}
use Rattle.reference_machine.specs.Formats.{Formats, Item}
use Rattle.bench_model.specs.Files.{File}
use Rattle.reference_machine.specs.Machine.{Machine}
use Rattle.reset_play.specs.Plays.{has_one_device, is_thin_on}
use Rattle.reference_machine.specs.Report.{report_value}
use Rattle.reference_machine.specs.Spent.{Element, is_open, is_closed, spent}
use Rattle.reset_play.specs.Thin.{thin_item}

-- a boot of which nothing is left
abbrev pub between_tasks : Machine → Report → BootState
between_tasks m r = record { machine = m; left = []; report = report_value r }

-- a piece of work done whole: its step, and the next one where the step left something of it
abbrev pub task_done : Formats → BootState → BootTask → BootState
task_done f b w = next f (after f b (w ∷ []))

-- all work done, piece by piece
abbrev pub tasks_done : Formats → BootState → List BootTask → BootState
tasks_done f b [] = b
tasks_done f b (w ∷ ws) = tasks_done f (task_done f b w) ws

-- the key of the one unit of a thin file that has a target on a board of one device
abbrev pub file_key : File → UnitKey
file_key x = record {
  ticket = record { route = 1; capsule = 0; item = 0; serial = x.serial };
  unit = 0;
  device = 0;
  name = x.name;
}

-- the one unit of such a file
abbrev pub file_unit : File → BootUnit
file_unit x = record {
  kind = Try;
  key = file_key x;
  capsule = fmp_guid;
  head = item.head;
  image = item.image;
}
  where
    item : Item
    item = thin_item x.bytes

-- the work on such a file, by whether its unit is spent
abbrev pub marked_tasks : File → Bool → List BootTask
marked_tasks x is_spent =
    (if is_spent then [] else Commits (Does (file_unit x)) ∷ []) ++ Removes x.serial ∷ []

-- the work on such files, with a mark for each
abbrev pub all_marked_tasks : List File → List Bool → List BootTask
all_marked_tasks [] marks = []
all_marked_tasks (x ∷ xs) [] = []
all_marked_tasks (x ∷ xs) (mark ∷ marks) = marked_tasks x mark ++ all_marked_tasks xs marks

-- whether a unit of a file is spent, for each file
abbrev pub marks_of : List Element → List File → List Bool
marks_of list files = map (λ x. not (spent list x.serial == 0)) files

-- what is open is settled first
abbrev pub heal_tasks : Option Element → List BootTask
heal_tasks None = []
heal_tasks (Some e) = Commits (Settles Heal Sealed) ∷ []

-- the element that is open, if any, as the rest of a list
abbrev pub open_rest : Option Element → List Element
open_rest None = []
open_rest (Some e) = e ∷ []

-- the platform's one open element, if any, is open
abbrev pub is_claim_open : Option Element → Bool
is_claim_open None = true
is_claim_open (Some e) = is_open e

-- what holds of each platform: one device, few files, each thin with a target, and only the last
-- element may be open
pub record IsListPlatform (board : BoardValue) (files : List File) (closed : List Element)
    (claimed : Option Element) : Type 0 where
  pub one : IsTrue (has_one_device board)
  pub few : length files ≤ MAX_FILES
  pub thin : IsTrue (list_all (λ x. is_thin_on board x.bytes) files)
  pub closed_before : IsTrue (list_all is_closed closed)
  pub open_last : IsTrue (is_claim_open claimed)
