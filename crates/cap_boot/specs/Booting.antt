-- What a boot does to a bench.
use Rattle.std.specs.Prelude.{◌≡◌, ◌⊎◌, Result, IsErrAnd, MatchResult}
use Rattle.bench_model.specs.Bench.{BenchValue}
use Rattle.reference_machine.specs.Boots.{boot_of}
use Rattle.reference_machine.specs.Laws.{IsReached}
use Rattle.reference_machine.specs.Machine.{Machine}
use Rattle.reference_machine.specs.Report.{ReportValue, nothing_done}
use Rattle.reference_machine.specs.Stops.{Agrees}
use Rattle.reference_machine.specs.declared.unit.End.{End}
use Rattle.var_log.specs.Opens.{KeepsStores}
use Rattle.cap_boot.specs.declared.fault.BootFault.{BootFault}
use Rattle.cap_boot.specs.Faults.{IsOfOpening}
use Rattle.cap_boot.specs.Opening.{KeepsBeside}
use Rattle.cap_boot.specs.Situations.{cause_of}
use Rattle.cap_boot.specs.Stands.{IsClean, ReadsAs, Setting, StandsForEither}
use Rattle.cap_boot.specs.Tasks.{heal_end}

-- the store was not opened: each image has the variables and the number of an image at entry, and
-- all else of it is as it was; NoBank comes only where there is no store
pub record IsUnopened {T : Type 0} (old : BenchValue) (result : Result T BootFault)
    (report : ReportValue) (new : BenchValue) : Type 0 where
  pub report_is : report ≡ nothing_done
  pub stores : KeepsStores old new
  pub beside : KeepsBeside old new
  pub err : IsErrAnd result (IsOfOpening old)

-- all steps of the boot of a machine, healed by this end, were done, and nothing is dirty
pub record IsFinished (x : Setting) (m : Machine) (heal : End) (report : ReportValue)
    (new : BenchValue) : Type 0 where
  pub report_is : report ≡ (boot_of x.formats m heal).report
  pub stands : StandsForEither x new.contents (boot_of x.formats m heal).machine
      (boot_of x.formats m heal).machine
  pub clean : IsClean new.contents

-- a fault stopped the boot of a machine: each image stands for one of two machines that the report
-- agrees with
pub record IsStoppedBoot (x : Setting) (fault : BootFault) (m : Machine) (heal : End)
    (report : ReportValue) (new : BenchValue) : Type 0 where
  pub one : Machine
  pub other : Machine
  pub one_agrees : Agrees x.formats m heal report (cause_of fault) one
  pub other_agrees : Agrees x.formats m heal report (cause_of fault) other
  pub either : StandsForEither x new.contents one other

-- the boot of each reached machine that the bench as read stands for
abbrev pub IsOpenedBoot : {T : Type 0} → Setting → BenchValue → Result T BootFault → ReportValue
    → BenchValue → Type 0
IsOpenedBoot x old result report new =
    (m : Machine) → IsReached x.formats x.board m → m.now ≡ x.now → ReadsAs x old.contents m
    → MatchResult result
    (λ _. IsFinished x m (heal_end x old.contents m) report new)
    (λ fault. IsStoppedBoot x fault m (heal_end x old.contents m) report new)

-- what a boot does
abbrev pub Boots : {T : Type 0} → Setting → BenchValue → Result T BootFault → ReportValue
    → BenchValue → Type 0
Boots x old result report new =
    IsUnopened old result report new ⊎ IsOpenedBoot x old result report new
