-- What a call on claims answers that commits one batch, and what each answer leaves. An empty batch
-- is not committed.
use Rattle.std.specs.Prelude.{◌≡◌, ℕ, Bool, not, List, [], ◌∷◌, Result, Ok, Err}
use Rattle.std.specs.List.{list_all}
use Rattle.bench_model.specs.Bench.{BenchValue}
use Rattle.dev_claims.specs.declared.fault.ClaimFault.{ClaimFault}
use Rattle.dev_claims.specs.declared.fault.ClaimFault.TheVariants as claims
use Rattle.var_log.specs.Counts.{raised, with_room}
use Rattle.var_log.specs.Logs.{free_of}
use Rattle.var_log.specs.declared.change.Change.{Change}
use Rattle.var_log.specs.declared.fault.LogFault.TheVariants.{Flash, NoBank, Full, Stale}
use Rattle.var_log.specs.declared.fault.LogFault.TheVariants as log
use Rattle.var_store.specs.Answers.{is_too_big}
use Rattle.var_store.specs.Stores.{HeldStore, OnlyMakesPlaces, prepared_of}
use Rattle.var_store.specs.Writes.{AnswersWrite, HasWritten, WriteLeaves}
use Rattle.var_store.specs.declared.fault.StoreFault.{StoreFault}
use Rattle.var_store.specs.declared.fault.StoreFault.TheVariants.{Log, BadName, TooBig, Memory}

-- a fault of the store as one of a claim
abbrev pub claim_fault_of : StoreFault → ClaimFault
claim_fault_of (Log fault) = claims.Store (Log fault)
claim_fault_of BadName = claims.Store BadName
claim_fault_of TooBig = claims.Store TooBig
claim_fault_of Memory = claims.Memory

-- a change is not too big
abbrev pub is_small : Change → Bool
is_small c = not (is_too_big c)

-- no change is too big
abbrev pub are_small : List Change → Bool
are_small changes = list_all is_small changes

-- what is left of the store: itself where the batch is empty, else what the batch leaves
abbrev pub LeavesStore : {T : Type 0} → List Change → HeldStore → HeldStore
    → Result T ClaimFault → Type 0
LeavesStore [] old new (Ok x) = new ≡ old
LeavesStore (c ∷ rest) old new (Ok x) = WriteLeaves (c ∷ rest) old new (Ok x)
LeavesStore {T = T} changes old new (Err (claims.Store fault)) =
    WriteLeaves {T = T} changes old new (Err fault)
LeavesStore changes old new (Err claims.Flash) = ⊥
LeavesStore changes old new (Err (claims.Spent progress)) = ⊥
LeavesStore changes old new (Err claims.Memory) = OnlyMakesPlaces old new

-- each image has the batch; where it is empty the bench is as it was
abbrev pub HasCommitted : List Change → BenchValue → BenchValue → Type 0
HasCommitted [] old new = new ≡ old
HasCommitted (c ∷ rest) old new = HasWritten (c ∷ rest) old new

-- when each answer comes: a refusal only where the batch is not empty, and then as the store takes
-- it; want of memory is free
abbrev pub AnswersCommit : {T : Type 0} → List Change → HeldStore → Result T ClaimFault → Type 0
AnswersCommit [] s (Ok x) = Unit {0}
AnswersCommit (c ∷ rest) s (Ok x) = AnswersWrite (c ∷ rest) s (Ok x)
AnswersCommit [] s (Err (claims.Store fault)) = ⊥
AnswersCommit {T = T} (c ∷ rest) s (Err (claims.Store (Log fault))) =
    AnswersWrite {T = T} (c ∷ rest) s (Err (Log fault))
AnswersCommit (c ∷ rest) s (Err (claims.Store BadName)) = ⊥
AnswersCommit {T = T} (c ∷ rest) s (Err (claims.Store TooBig)) =
    AnswersWrite {T = T} (c ∷ rest) s (Err TooBig)
AnswersCommit (c ∷ rest) s (Err (claims.Store Memory)) = ⊥
AnswersCommit changes s (Err claims.Flash) = ⊥
AnswersCommit changes s (Err (claims.Spent progress)) = ⊥
AnswersCommit changes s (Err claims.Memory) = Unit {0}

-- where an answer is neither Ok nor a fault of the flash, nothing of the bench has changed
abbrev pub StaysUnlessStruck : {T : Type 0} → BenchValue → BenchValue → Result T ClaimFault
    → Type 0
StaysUnlessStruck old new (Ok x) = Unit {0}
StaysUnlessStruck old new (Err (claims.Store (Log Flash))) = Unit {0}
StaysUnlessStruck old new (Err (claims.Store (Log NoBank))) = new ≡ old
StaysUnlessStruck old new (Err (claims.Store (Log Full))) = new ≡ old
StaysUnlessStruck old new (Err (claims.Store (Log Stale))) = new ≡ old
StaysUnlessStruck old new (Err (claims.Store (Log log.Memory))) = new ≡ old
StaysUnlessStruck old new (Err (claims.Store BadName)) = new ≡ old
StaysUnlessStruck old new (Err (claims.Store TooBig)) = new ≡ old
StaysUnlessStruck old new (Err (claims.Store Memory)) = new ≡ old
StaysUnlessStruck old new (Err claims.Flash) = new ≡ old
StaysUnlessStruck old new (Err (claims.Spent progress)) = new ≡ old
StaysUnlessStruck old new (Err claims.Memory) = new ≡ old

-- how many moves a call made: none of an empty batch, else 6 where room was made and 4 of the batch
abbrev pub moves_of_commit : List Change → HeldStore → ℕ → ℕ
moves_of_commit [] s moves = moves
moves_of_commit (c ∷ rest) s moves =
    raised (with_room moves (prepared_of (c ∷ rest)).size (free_of s.log)) 4
