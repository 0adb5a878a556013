-- Where a boot stands, between two steps and where a fault stopped it.
use Rattle.std.specs.Prelude.{◌≡◌, ◌⊎◌, ℕ, ◌+◌, true, IsTrue, Option, None, Some}
use Rattle.bench_model.specs.Bench.{BenchValue}
use Rattle.bench_model.specs.Boards.{IsBoard}
use Rattle.reference_machine.specs.Boots.{BootState, boot_at, next}
use Rattle.reference_machine.specs.Formats.{Formats}
use Rattle.reference_machine.specs.Laws.{IsReached, KeepsLimits}
use Rattle.reference_machine.specs.Machine.{Machine}
use Rattle.reference_machine.specs.Report.{ReportValue, report_value}
use Rattle.reference_machine.specs.Stops.{IsHeldEnd, StopCause, is_batch, is_in_folder, is_removal}
use Rattle.reference_machine.specs.Stops.StopCause.{Flash, Volume, Memory}
use Rattle.reference_machine.specs.declared.report.Report.{Report}
use Rattle.reference_machine.specs.declared.unit.End.{End}
use Rattle.stored_vars.specs.Stands.{Stores}
use Rattle.var_log.specs.Logs.{HasBanks, IsFresh}
use Rattle.var_store.specs.Stores.{HeldStore, Stands, store_value}
use Rattle.cap_boot.specs.declared.fault.BootFault.{BootFault}
use Rattle.cap_boot.specs.declared.fault.BootFault.TheVariants as boot
use Rattle.cap_boot.specs.Stands.{IsClean, OutsideIs, Setting, StandsForEither}

-- what the calls of a boot change
pub record Situation : Type 0 where
  pub store : HeldStore
  pub bench : BenchValue
  pub report : ReportValue

-- the situation of this store, bench and report
abbrev pub situation : HeldStore → BenchValue → Report → Situation
situation store bench report =
    record { store = store; bench = bench; report = report_value report }

-- what a boot tells that ends here
abbrev pub told_at : Situation → ReportValue
told_at y = record y.report { pending = y.store.log.pending }

-- the store is open: it stands on the bench, and no batch of it is in doubt
pub record IsOpen (store : HeldStore) (b : BenchValue) : Type 0 where
  pub banks : HasBanks b
  pub stands : Stands store b
  pub fresh : IsFresh store.log

-- the store is open, and nothing is dirty where the bytes are told
pub record IsReady (store : HeldStore) (b : BenchValue) : Type 0 where
  pub opened : IsOpen store b
  pub clean : b.contents.told ≡ true → IsClean b.contents

-- a boot is under way: some steps of the boot of a reached machine were done
pub record IsUnderWay (x : Setting) (b : BootState) : Type 0 where
  pub start : Machine
  pub heal : End
  pub count : ℕ
  pub is : b ≡ boot_at x.formats start heal count
  pub reached : IsReached x.formats x.board start
  pub is_held : IsHeldEnd heal
  pub now : start.now ≡ x.now
  pub limits : KeepsLimits x.formats
  pub is_board : IsBoard x.board

-- between two steps: the bench stands for the machine, and the report is that of the steps
pub record IsAt (x : Setting) (b : BootState) (y : Situation) : Type 0 where
  pub told : y.bench.contents.told ≡ true
  pub opened : IsOpen y.store y.bench
  pub stores : Stores (store_value y.store) b.machine
  pub outside : OutsideIs x y.bench.contents b.machine
  pub report : told_at y ≡ b.report

-- the cause that a fault tells. A store that takes no further batch stops a boot between two steps,
-- as want of memory does.
abbrev pub cause_of : BootFault → StopCause
cause_of boot.Flash = Flash
cause_of boot.Volume = Volume
cause_of boot.NoBank = Memory
cause_of boot.Memory = Memory

-- after a fault of the flash: no batch is in doubt, or it is that of the next step, under the next
-- number
abbrev pub StopsByFlash : Formats → BootState → Option ℕ → Machine → Type 0
StopsByFlash f b None new = new ≡ b.machine
StopsByFlash f b (Some number) new =
    IsTrue (is_batch b.left) × (number ≡ b.machine.batches + 1)
    × ((new ≡ b.machine) ⊎ (new ≡ (next f b).machine))

-- after a fault of the volume: the boot has come to the folder, and a removal in hand was done or
-- not
abbrev pub StopsByVolume : Formats → Machine → BootState → Machine → Type 0
StopsByVolume f start b new =
    IsTrue start.is_signalled × IsTrue (is_in_folder b)
    × ((new ≡ b.machine) ⊎ (IsTrue (is_removal b.left) × (new ≡ (next f b).machine)))

-- a boot of the start that came to b may be stopped there for this cause, with this report and at
-- this machine
abbrev pub StopsAt : Formats → Machine → BootState → ReportValue → StopCause → Machine → Type 0
StopsAt f start b r Flash new =
    (record r { pending = None } ≡ b.report) × StopsByFlash f b r.pending new
StopsAt f start b r Volume new = (r ≡ b.report) × StopsByVolume f start b new
StopsAt f start b r Memory new = (r ≡ b.report) × (new ≡ b.machine)

-- a fault stopped the boot before its next step was finished: each image stands for one of two
-- machines that it may be stopped at
pub record IsStopped (x : Setting) (fault : BootFault) (start : Machine) (b : BootState)
    (y : Situation) : Type 0 where
  pub one : Machine
  pub other : Machine
  pub one_is : StopsAt x.formats start b (told_at y) (cause_of fault) one
  pub other_is : StopsAt x.formats start b (told_at y) (cause_of fault) other
  pub either : StandsForEither x y.bench.contents one other
