-- Where a boot may be stopped, and which machines the report of a stopped boot agrees with. A boot
-- is stopped between two steps or inside one: then the machine is that before the step or that
-- after it.
use Rattle.std.specs.Prelude.{ℕ, suc, Bool, true, false, ◌+◌, ◌==◌, ◌&&◌, ◌||◌, not, ◌≡◌, ◌⊎◌}
use Rattle.std.specs.Prelude.{IsTrue, List, [], ◌∷◌, map, Option, None, Some}
use Rattle.std.specs.List.{list_all, range_with_len}
use Rattle.reference_machine.specs.declared.unit.End.{End}
use Rattle.reference_machine.specs.declared.unit.End.TheVariants.{Refused, Sealed, Kept, Lost}
use Rattle.reference_machine.specs.declared.unit.Kind.{Kind}
use Rattle.reference_machine.specs.declared.unit.Kind.TheVariants.{Try, Heal, Skip, NoTarget, Bad}
use Rattle.reference_machine.specs.Boots.{BootBatch, BootTask, BootState, boot_at, boot_of}
use Rattle.reference_machine.specs.Boots.BootBatch.{Settles, Unstages, Does, Prunes, Clears}
use Rattle.reference_machine.specs.Boots.BootTask.{Commits, Removes}
use Rattle.reference_machine.specs.Formats.{Formats}
use Rattle.reference_machine.specs.Machine.{Machine}
use Rattle.reference_machine.specs.Report.{ReportValue}
use Rattle.reference_machine.specs.Spent.{is_open}

-- an end that is told by what a device holds
abbrev pub IsHeldEnd : End → Type 0
IsHeldEnd (Refused status) = ⊥
IsHeldEnd Sealed = Unit {0}
IsHeldEnd Kept = Unit {0}
IsHeldEnd Lost = Unit {0}

-- why a boot is stopped: a call of the flash or of the volume failed, or memory ran out
pub data StopCause : Type 0 where
  Flash : StopCause
  Volume : StopCause
  Memory : StopCause

-- the machines at which a boot may be stopped: those after its first j steps, for each j
abbrev pub stops : Formats → Machine → End → List Machine
stops f m h =
    map (λ j. (boot_at f m h j).machine) (range_with_len 0 ((boot_of f m h).report.steps + 1))

-- a unit of this kind is tried
abbrev pub is_try : Kind → Bool
is_try Try = true
is_try Heal = false
is_try Skip = false
is_try NoTarget = false
is_try Bad = false

-- whether a batch belongs to the folder, once nothing of a delivery by memory is open. Of
-- settlements only that of a try may: the heal stands before all deliveries.
abbrev pub is_folder_batch : BootBatch → Bool
is_folder_batch (Settles kind end) = is_try kind
is_folder_batch (Unstages pair) = false
is_folder_batch (Does unit) = unit.key.ticket.route == 1
is_folder_batch Prunes = true
is_folder_batch Clears = true

-- whether a task belongs to the folder
abbrev pub is_folder_task : BootTask → Bool
is_folder_task (Commits batch) = is_folder_batch batch
is_folder_task (Removes serial) = true

-- a boot has come to the folder: the tasks that are left, and what is open, are of files
abbrev pub is_in_folder : BootState → Bool
is_in_folder b =
    list_all is_folder_task b.left
    && list_all (λ e. not (is_open e) || e.key.ticket.route == 1) b.machine.list

-- the next task is a batch of the store
abbrev pub is_batch : List BootTask → Bool
is_batch [] = false
is_batch (Commits batch ∷ rest) = true
is_batch (Removes serial ∷ rest) = false

-- the next task removes a file
abbrev pub is_removal : List BootTask → Bool
is_removal [] = false
is_removal (Commits batch ∷ rest) = false
is_removal (Removes serial ∷ rest) = true

-- the boot after the steps that a report counts
abbrev pub told_boot : Formats → Machine → End → ReportValue → BootState
told_boot f m h r = boot_at f m h r.steps

-- the machine after these steps
abbrev pub IsStoppedAt : Formats → Machine → End → ReportValue → Machine → Type 0
IsStoppedAt f m h r new = new ≡ (told_boot f m h r).machine

-- the machine after one step more
abbrev pub IsStoppedAfter : Formats → Machine → End → ReportValue → Machine → Type 0
IsStoppedAfter f m h r new = new ≡ (boot_at f m h (suc r.steps)).machine

-- after a fault of the flash: with a batch in doubt, whose number is told, the next step is this
-- batch and was done or not
abbrev pub AgreesAfterFlash : Formats → Machine → End → ReportValue → Option ℕ → Machine → Type 0
AgreesAfterFlash f m h r None new = IsStoppedAt f m h r new
AgreesAfterFlash f m h r (Some number) new =
    IsTrue (is_batch (told_boot f m h r).left)
    × (number ≡ (told_boot f m h r).machine.batches + 1)
    × (IsStoppedAt f m h r new ⊎ IsStoppedAfter f m h r new)

-- after a fault of the volume: the boot has come to the folder, and a removal in hand was done or
-- not
abbrev pub AgreesAfterVolume : Formats → Machine → End → ReportValue → Machine → Type 0
AgreesAfterVolume f m h r new =
    IsTrue m.is_signalled
    × IsTrue (is_in_folder (told_boot f m h r))
    × (IsStoppedAt f m h r new
    ⊎ (IsTrue (is_removal (told_boot f m h r).left) × IsStoppedAfter f m h r new))

-- the report of a boot of m that was stopped for a cause agrees with a machine: it tells the steps
-- that it counts, and the machine is one of those of its cause
abbrev pub Agrees : Formats → Machine → End → ReportValue → StopCause → Machine → Type 0
Agrees f m h r Flash new =
    (record r { pending = None } ≡ (told_boot f m h r).report)
    × AgreesAfterFlash f m h r r.pending new
Agrees f m h r Volume new = (r ≡ (told_boot f m h r).report) × AgreesAfterVolume f m h r new
Agrees f m h r Memory new = (r ≡ (told_boot f m h r).report) × IsStoppedAt f m h r new
