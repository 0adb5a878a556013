-- Which faults a call of a boot answers, and when.
use Rattle.std.specs.Prelude.{Result}
use Rattle.bench_model.specs.Bench.{BenchValue}
use Rattle.cu_base.specs.Causes.{HasCauseOf}
use Rattle.update_inbox.specs.Answers.{HasNoStore}
use Rattle.cap_boot.specs.declared.fault.BootFault.{BootFault}
use Rattle.cap_boot.specs.declared.fault.BootFault.TheVariants.{Flash, Volume, NoBank, Memory}
use Rattle.var_log.specs.declared.fault.LogFault.TheVariants as log
use Rattle.var_store.specs.declared.fault.StoreFault.{StoreFault}
use Rattle.var_store.specs.declared.fault.StoreFault.TheVariants.{Log, BadName, TooBig}
use Rattle.var_store.specs.declared.fault.StoreFault.TheVariants as store

-- a fault of opening the store: NoBank comes only where there is none
abbrev pub IsOfOpening : BenchValue → BootFault → Type 0
IsOfOpening old Flash = Unit {0}
IsOfOpening old Volume = ⊥
IsOfOpening old NoBank = HasNoStore old
IsOfOpening old Memory = Unit {0}

-- a fault of the flash comes only where its count of faults rose in the call, and the count never
-- falls
abbrev pub HasFlashCause : {T : Type 0} → BenchValue → BenchValue → Result T BootFault → Type 0
HasFlashCause old new result =
    HasCauseOf Flash old.counts.flash_faults new.counts.flash_faults result

-- a fault of the store as one of a boot
abbrev pub fault_of : StoreFault → BootFault
fault_of (Log log.Flash) = Flash
fault_of (Log log.NoBank) = NoBank
fault_of (Log log.Full) = NoBank
fault_of (Log log.Stale) = NoBank
fault_of (Log log.Memory) = NoBank
fault_of BadName = NoBank
fault_of TooBig = NoBank
fault_of store.Memory = Memory

-- a fault of a listing
abbrev pub IsOfListing : BootFault → Type 0
IsOfListing Flash = ⊥
IsOfListing Volume = Unit {0}
IsOfListing NoBank = ⊥
IsOfListing Memory = Unit {0}
