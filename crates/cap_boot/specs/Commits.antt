-- What a batch leaves that a boot writes into its store.
use Rattle.std.specs.Prelude.{◌≡◌, ◌⊎◌, ◌+◌, ◌<◌, Bool, true, false, List, [], ◌∷◌, length, None, Some}
use Rattle.bench_model.specs.Bench.{BenchValue}
use Rattle.dev_claims.specs.declared.fault.ClaimFault.{ClaimFault}
use Rattle.dev_claims.specs.declared.fault.ClaimFault.TheVariants as claims
use Rattle.var_log.specs.Changes.{after}
use Rattle.var_log.specs.declared.change.Change.{Change}
use Rattle.var_store.specs.Stores.{HeldStore, variables_of}
use Rattle.var_store.specs.Writes.{MayHaveWritten}
use Rattle.cap_boot.specs.declared.fault.BootFault.{BootFault}
use Rattle.cap_boot.specs.declared.fault.BootFault.TheVariants as boot
use Rattle.cap_boot.specs.Faults.{fault_of}

-- the batch was written: its changes were made, under the next number
pub record IsStored (changes : List Change) (old new : HeldStore) : Type 0 where
  pub variables : variables_of new ≡ after (variables_of old) changes
  pub number : new.log.seq ≡ old.log.seq + 1

-- the flash failed: each image has the store with the batch or without it, and without it where no
-- batch is in doubt
pub record IsInDoubt (changes : List Change) (old new : HeldStore)
    (before now : BenchValue) : Type 0 where
  pub pending : (new.log.pending ≡ None) ⊎ (new.log.pending ≡ Some (old.log.seq + 1))
  pub images : MayHaveWritten changes new.log.pending before now

-- nothing was written
pub record IsUntouched (old new : HeldStore) (before now : BenchValue) : Type 0 where
  pub bench : now.contents ≡ before.contents
  pub log : new.log ≡ old.log

-- what is left where a batch was not written
abbrev pub LeavesBatch : List Change → HeldStore → HeldStore → BenchValue → BenchValue → BootFault
    → Type 0
LeavesBatch changes old new before now boot.Flash = IsInDoubt changes old new before now
LeavesBatch changes old new before now boot.Volume = ⊥
LeavesBatch changes old new before now boot.NoBank = IsUntouched old new before now
LeavesBatch changes old new before now boot.Memory = IsUntouched old new before now

-- what is left where progress was to drop (true), or none was (false)
abbrev pub DropsAs : List Change → HeldStore → HeldStore → BenchValue → BenchValue → Bool → Type 0
DropsAs changes old new before now true = (0 < length changes) × IsStored changes old new
DropsAs changes old new before now false = (changes ≡ []) × (new ≡ old) × (now ≡ before)

-- what is left where progress was not dropped: where none was to drop, memory ran out
abbrev pub LeavesDrop : List Change → HeldStore → HeldStore → BenchValue → BenchValue → BootFault
    → Type 0
LeavesDrop [] old new before now fault =
    (fault ≡ boot.Memory) × IsUntouched old new before now
LeavesDrop (c ∷ rest) old new before now fault = LeavesBatch (c ∷ rest) old new before now fault

-- a fault of a claim as one of a boot
abbrev pub fault_of_claim : ClaimFault → BootFault
fault_of_claim (claims.Store fault) = fault_of fault
fault_of_claim claims.Flash = boot.Memory
fault_of_claim (claims.Spent progress) = boot.Memory
fault_of_claim claims.Memory = boot.Memory

-- a fault of a settlement as one of a boot
abbrev pub fault_of_settlement : ClaimFault → BootFault
fault_of_settlement (claims.Store fault) = fault_of fault
fault_of_settlement claims.Flash = boot.Flash
fault_of_settlement (claims.Spent progress) = boot.Memory
fault_of_settlement claims.Memory = boot.Memory
