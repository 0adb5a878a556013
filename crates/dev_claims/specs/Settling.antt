-- What the settlement of an open claim answers, and what each answer leaves. The slot of its device
-- is looked at first; where the flash failed there, nothing else is done.
use Rattle.std.specs.Prelude.{◌≡◌, ◌<◌, ℕ, List, [], Result, Ok, Err, length}
use Rattle.bench_model.specs.Bench.{BenchValue, ChangesCounts}
use Rattle.bench_model.specs.Boards.{BoardValue}
use Rattle.dev_claims.specs.Committing.{AnswersCommit, LeavesStore}
use Rattle.dev_claims.specs.declared.fault.ClaimFault.{ClaimFault}
use Rattle.dev_claims.specs.declared.fault.ClaimFault.TheVariants as claims
use Rattle.fmp_slot.specs.Held.{HasSlot}
use Rattle.var_log.specs.declared.change.Change.{Change}
use Rattle.var_log.specs.declared.fault.LogFault.TheVariants.{Flash, NoBank, Full, Stale}
use Rattle.var_log.specs.declared.fault.LogFault.TheVariants as log
use Rattle.var_store.specs.Stores.{HeldStore}
use Rattle.var_store.specs.declared.fault.StoreFault.TheVariants.{Log, BadName, TooBig, Memory}

-- the board's devices have slots
abbrev pub HaveSlots : (ℕ → ℕ) → BoardValue → BenchValue → Type 0
HaveSlots size_of board b =
    (d : ℕ) → d < length board.devices → HasSlot (size_of 0) d b

-- what is left of the store: as it was where the slot could not be read
abbrev pub LeavesSettled : {T : Type 0} → List Change → HeldStore → HeldStore
    → Result T ClaimFault → Type 0
LeavesSettled changes old new (Ok x) = LeavesStore changes old new (Ok x)
LeavesSettled {T = T} changes old new (Err (claims.Store fault)) =
    LeavesStore {T = T} changes old new (Err (claims.Store fault))
LeavesSettled changes old new (Err claims.Flash) = new ≡ old
LeavesSettled changes old new (Err (claims.Spent progress)) = ⊥
LeavesSettled {T = T} changes old new (Err claims.Memory) =
    LeavesStore {T = T} changes old new (Err claims.Memory)

-- when each answer comes; Flash only where a claim is open
abbrev pub AnswersSettled : {T : Type 0} → List Change → HeldStore → Result T ClaimFault → Type 0
AnswersSettled changes s (Ok x) = AnswersCommit changes s (Ok x)
AnswersSettled {T = T} changes s (Err (claims.Store fault)) =
    AnswersCommit {T = T} changes s (Err (claims.Store fault))
AnswersSettled changes s (Err claims.Flash) = changes ≡ [] → ⊥
AnswersSettled changes s (Err (claims.Spent progress)) = ⊥
AnswersSettled changes s (Err claims.Memory) = Unit {0}

-- where an answer is neither Ok nor a fault of the flash in the store, nothing of the bench has
-- changed but counts
abbrev pub StaysUnlessWritten : {T : Type 0} → BenchValue → BenchValue → Result T ClaimFault
    → Type 0
StaysUnlessWritten old new (Ok x) = Unit {0}
StaysUnlessWritten old new (Err (claims.Store (Log Flash))) = Unit {0}
StaysUnlessWritten old new (Err (claims.Store (Log NoBank))) = ChangesCounts old new
StaysUnlessWritten old new (Err (claims.Store (Log Full))) = ChangesCounts old new
StaysUnlessWritten old new (Err (claims.Store (Log Stale))) = ChangesCounts old new
StaysUnlessWritten old new (Err (claims.Store (Log log.Memory))) = ChangesCounts old new
StaysUnlessWritten old new (Err (claims.Store BadName)) = ChangesCounts old new
StaysUnlessWritten old new (Err (claims.Store TooBig)) = ChangesCounts old new
StaysUnlessWritten old new (Err (claims.Store Memory)) = ChangesCounts old new
StaysUnlessWritten old new (Err claims.Flash) = ChangesCounts old new
StaysUnlessWritten old new (Err (claims.Spent progress)) = ChangesCounts old new
StaysUnlessWritten old new (Err claims.Memory) = ChangesCounts old new
