-- What a batch leaves that is written in one call: room made where it lacks, and one record.
use Rattle.std.specs.Prelude.{◌≡◌, ◌⊎◌, ◌+◌, ℕ, Bool, true, false, List, Option, Some, None}
use Rattle.std.specs.Prelude.{Result, Ok, Err}
use Rattle.std.specs.Prelude.{option_map}
use Rattle.bench_model.specs.Bench.{AreImages, BenchValue}
use Rattle.var_log.specs.declared.change.Change.{Change}
use Rattle.var_log.specs.declared.fault.LogFault.TheVariants.{Flash, NoBank, Full, Stale}
use Rattle.var_log.specs.declared.fault.LogFault.TheVariants as log
use Rattle.var_log.specs.Banks.{StoreValue, reclaimed_store, store_of}
use Rattle.var_log.specs.Changes.{after}
use Rattle.var_log.specs.Logs.{store_as_read, store_with}
use Rattle.var_store.specs.declared.fault.StoreFault.{StoreFault}
use Rattle.var_store.specs.declared.fault.StoreFault.TheVariants.{Log, BadName, TooBig, Memory}
use Rattle.var_store.specs.Answers.{has_room, refusal_of}
use Rattle.var_store.specs.Stores.{HeldStore, OnlyMakesPlaces, prepared_of, variables_of}

-- a store is one of before, or that under the next generation
abbrev pub IsOrReclaims : Option StoreValue → Option StoreValue → Type 0
IsOrReclaims before store = (store ≡ before) ⊎ (store ≡ option_map reclaimed_store before)

-- a store is one of before, maybe under the next generation, and has the batch
abbrev pub HasIn : List Change → Option StoreValue → Option StoreValue → Type 0
HasIn changes before store =
    (store ≡ store_with changes before)
    ⊎ (store ≡ store_with changes (option_map reclaimed_store before))

-- each image has the store as read with the batch
abbrev pub HasWritten : List Change → BenchValue → BenchValue → Type 0
HasWritten changes old new =
    (image : ℕ → List ℕ) → AreImages new.contents image
    → HasIn changes (store_as_read old) (store_of image)

-- each image has the store as read, or where a batch is in doubt that with the batch, wholly
abbrev pub MayHaveWritten : List Change → Option ℕ → BenchValue → BenchValue → Type 0
MayHaveWritten changes None old new =
    (image : ℕ → List ℕ) → AreImages new.contents image
    → IsOrReclaims (store_as_read old) (store_of image)
MayHaveWritten changes (Some number) old new =
    (image : ℕ → List ℕ) → AreImages new.contents image
    → IsOrReclaims (store_as_read old) (store_of image)
    ⊎ HasIn changes (store_as_read old) (store_of image)

-- the batch was written: its changes were made, under the next number
pub record IsWritten (changes : List Change) (old new : HeldStore) : Type 0 where
  pub seq : new.log.seq ≡ old.log.seq + 1
  pub pending : new.log.pending ≡ old.log.pending
  pub stale : new.log.stale ≡ false
  pub variables : variables_of new ≡ after (variables_of old) changes

-- the flash failed: it is this batch that is in doubt, or none is that was not before
pub record IsUnwritten (old new : HeldStore) : Type 0 where
  pub stale : new.log.stale ≡ true
  pub pending : (new.log.pending ≡ old.log.pending) ⊎ (new.log.pending ≡ Some (old.log.seq + 1))
  pub variables : variables_of new ≡ variables_of old

-- what is left of the store
abbrev pub WriteLeaves : {T : Type 0} → List Change → HeldStore → HeldStore
    → Result T StoreFault → Type 0
WriteLeaves changes old new (Ok x) = IsWritten changes old new
WriteLeaves changes old new (Err (Log Flash)) = IsUnwritten old new
WriteLeaves changes old new (Err (Log NoBank)) = ⊥
WriteLeaves changes old new (Err (Log Full)) = OnlyMakesPlaces old new
WriteLeaves changes old new (Err (Log Stale)) = OnlyMakesPlaces old new
WriteLeaves changes old new (Err (Log log.Memory)) = ⊥
WriteLeaves changes old new (Err BadName) = OnlyMakesPlaces old new
WriteLeaves changes old new (Err TooBig) = OnlyMakesPlaces old new
WriteLeaves changes old new (Err Memory) = OnlyMakesPlaces old new

-- there is room for so many bytes, or none, once the store has places for a batch
pub record RoomIs (bytes : ℕ) (s : HeldStore) (there : Bool) : Type 0 where
  pub placed : HeldStore
  pub only : OnlyMakesPlaces s placed
  pub is : has_room bytes placed ≡ there

-- when each answer comes: BadName and TooBig for the first change outside the limits; where there
-- is none, Stale exactly after a fault, and Full exactly where there is no room; want of memory is
-- free
abbrev pub AnswersWrite : {T : Type 0} → List Change → HeldStore → Result T StoreFault → Type 0
AnswersWrite changes s (Ok x) =
    (refusal_of changes ≡ None) × (s.log.stale ≡ false) × RoomIs (prepared_of changes).size s true
AnswersWrite changes s (Err (Log Flash)) =
    (refusal_of changes ≡ None) × (s.log.stale ≡ false) × RoomIs (prepared_of changes).size s true
AnswersWrite changes s (Err (Log NoBank)) = ⊥
AnswersWrite changes s (Err (Log Full)) =
    (refusal_of changes ≡ None) × (s.log.stale ≡ false) × RoomIs (prepared_of changes).size s false
AnswersWrite changes s (Err (Log Stale)) = (refusal_of changes ≡ None) × (s.log.stale ≡ true)
AnswersWrite changes s (Err (Log log.Memory)) = ⊥
AnswersWrite changes s (Err BadName) = refusal_of changes ≡ Some BadName
AnswersWrite changes s (Err TooBig) = refusal_of changes ≡ Some TooBig
AnswersWrite changes s (Err Memory) = refusal_of changes ≡ None

-- the same of a batch that is prepared
abbrev pub AnswersPrepared : {T : Type 0} → ℕ → HeldStore → Result T StoreFault → Type 0
AnswersPrepared size s (Ok x) = (s.log.stale ≡ false) × (has_room size s ≡ true)
AnswersPrepared size s (Err (Log Flash)) = (s.log.stale ≡ false) × (has_room size s ≡ true)
AnswersPrepared size s (Err (Log NoBank)) = ⊥
AnswersPrepared size s (Err (Log Full)) = (s.log.stale ≡ false) × (has_room size s ≡ false)
AnswersPrepared size s (Err (Log Stale)) = s.log.stale ≡ true
AnswersPrepared size s (Err (Log log.Memory)) = ⊥
AnswersPrepared size s (Err BadName) = ⊥
AnswersPrepared size s (Err TooBig) = ⊥
AnswersPrepared size s (Err Memory) = Unit {0}

-- what is left of the store where a prepared batch was to be written
abbrev pub PreparedLeaves : {T : Type 0} → List Change → HeldStore → HeldStore
    → Result T StoreFault → Type 0
PreparedLeaves changes old new (Ok x) = IsWritten changes old new
PreparedLeaves changes old new (Err (Log Flash)) = IsUnwritten old new
PreparedLeaves changes old new (Err (Log NoBank)) = ⊥
PreparedLeaves changes old new (Err (Log Full)) = new ≡ old
PreparedLeaves changes old new (Err (Log Stale)) = new ≡ old
PreparedLeaves changes old new (Err (Log log.Memory)) = ⊥
PreparedLeaves changes old new (Err BadName) = ⊥
PreparedLeaves changes old new (Err TooBig) = ⊥
PreparedLeaves changes old new (Err Memory) = new ≡ old
