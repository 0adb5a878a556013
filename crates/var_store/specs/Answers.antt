-- What the calls of a store answer, and what each answer leaves.
use Rattle.std.specs.Prelude.{◌≡◌, ℕ, Bool, true, false, not, List, [], ◌∷◌, length}
use Rattle.std.specs.Prelude.{Option, Some, None, Result, Ok, Err, if◌then◌else◌, nat_le, nat_lt}
use Rattle.std.specs.List.{flat_map}
use Rattle.bench_model.specs.Bench.{BenchValue}
use Rattle.cu_base.specs.Refusals.{Row, row, first_refusal}
use Rattle.var_log.specs.declared.change.Change.{Change}
use Rattle.var_log.specs.declared.change.Change.TheVariants.{Set, Delete}
use Rattle.var_log.specs.declared.fault.LogFault.{LogFault}
use Rattle.var_log.specs.declared.fault.LogFault.TheVariants.{Flash, NoBank, Full, Stale}
use Rattle.var_log.specs.declared.fault.LogFault.TheVariants as log
use Rattle.var_log.specs.declared.limits.TheConstants.{MAX_DATA}
use Rattle.var_log.specs.Banks.{store_of}
use Rattle.var_log.specs.Changes.{after, is_name, name_of, no_variables}
use Rattle.var_log.specs.Logs.{free_of, in_doubt, is_log_full, log_after, log_reclaimed}
use Rattle.var_log.specs.Opens.{CannotMigrate, IsOpened, opened_store}
use Rattle.var_store.specs.declared.fault.StoreFault.{StoreFault}
use Rattle.var_store.specs.declared.fault.StoreFault.TheVariants.{Log, BadName, TooBig, Memory}
use Rattle.var_store.specs.Stores.{HeldStore, PreparedValue, live_size, prepared_of, store_value}
use Rattle.var_store.specs.Stores.{variables_of}

-- what was opened: the store that the banks are, in a log that nothing is in doubt of
pub record IsOpenedStore (banks : ℕ → List ℕ) (s : HeldStore) : Type 0 where
  pub store : opened_store banks ≡ Some (store_value s)
  pub live : List Change
  pub log : IsOpened banks s.log live
  pub variables : variables_of s ≡ after no_variables live

-- what is answered on these banks
abbrev pub OpensAs : (ℕ → List ℕ) → Result HeldStore StoreFault → Type 0
OpensAs banks (Ok s) = IsOpenedStore banks s
OpensAs banks (Err (Log Flash)) = Unit {0}
OpensAs banks (Err (Log NoBank)) = store_of banks ≡ None
OpensAs banks (Err (Log Full)) = CannotMigrate banks
OpensAs banks (Err (Log Stale)) = ⊥
OpensAs banks (Err (Log log.Memory)) = ⊥
OpensAs banks (Err BadName) = ⊥
OpensAs banks (Err TooBig) = ⊥
OpensAs banks (Err Memory) = Unit {0}

-- a fault of the log as the store tells it
abbrev pub told : LogFault → StoreFault
told Flash = Log Flash
told NoBank = Log NoBank
told Full = Log Full
told Stale = Log Stale
told log.Memory = Memory

-- an answer is of those that opening a store has
abbrev pub IsOpeningAnswer : {T : Type 0} → Result T StoreFault → Type 0
IsOpeningAnswer (Ok x) = Unit {0}
IsOpeningAnswer (Err (Log Flash)) = Unit {0}
IsOpeningAnswer (Err (Log NoBank)) = Unit {0}
IsOpeningAnswer (Err (Log Full)) = Unit {0}
IsOpeningAnswer (Err (Log Stale)) = ⊥
IsOpeningAnswer (Err (Log log.Memory)) = ⊥
IsOpeningAnswer (Err BadName) = ⊥
IsOpeningAnswer (Err TooBig) = ⊥
IsOpeningAnswer (Err Memory) = Unit {0}

-- an answer is that the store was left after a fault
abbrev pub is_stale : {T : Type 0} → Result T StoreFault → Bool
is_stale (Ok x) = false
is_stale (Err (Log Flash)) = false
is_stale (Err (Log NoBank)) = false
is_stale (Err (Log Full)) = false
is_stale (Err (Log Stale)) = true
is_stale (Err (Log log.Memory)) = false
is_stale (Err BadName) = false
is_stale (Err TooBig) = false
is_stale (Err Memory) = false

-- a change is too big: it sets more data than the limit
abbrev pub is_too_big : Change → Bool
is_too_big (Set name guid attributes value) = nat_lt MAX_DATA (length value)
is_too_big (Delete name guid) = false

-- why a change is refused
abbrev pub change_rows : Change → List (Row StoreFault)
change_rows c = row (not (is_name (name_of c))) BadName ∷ row (is_too_big c) TooBig ∷ []

-- the refusal of changes: that of the first one outside the limits
abbrev pub refusal_of : List Change → Option StoreFault
refusal_of changes = first_refusal (flat_map change_rows changes)

-- what is answered where changes are to be prepared
abbrev pub PreparesAs : List Change → Result PreparedValue StoreFault → Type 0
PreparesAs changes (Ok p) = (refusal_of changes ≡ None) × (p ≡ prepared_of changes)
PreparesAs changes (Err (Log fault)) = ⊥
PreparesAs changes (Err BadName) = refusal_of changes ≡ Some BadName
PreparesAs changes (Err TooBig) = refusal_of changes ≡ Some TooBig
PreparesAs changes (Err Memory) = refusal_of changes ≡ None

-- changes were committed as one record of n bytes
pub record IsCommitted (n : ℕ) (changes : List Change) (old new : HeldStore) : Type 0 where
  pub log : new.log ≡ log_after old.log n
  pub variables : variables_of new ≡ after (variables_of old) changes

-- what a commit leaves of the store: the changes made, or a batch in doubt, or nothing changed
abbrev pub CommitLeaves : {T : Type 0} → PreparedValue → HeldStore → HeldStore
    → Result T StoreFault → Type 0
CommitLeaves p old new (Ok x) = IsCommitted p.size p.changes old new
CommitLeaves p old new (Err (Log Flash)) = new ≡ record old { log = in_doubt old.log }
CommitLeaves p old new (Err (Log NoBank)) = ⊥
CommitLeaves p old new (Err (Log Full)) = ⊥
CommitLeaves p old new (Err (Log Stale)) = new ≡ old
CommitLeaves p old new (Err (Log log.Memory)) = ⊥
CommitLeaves p old new (Err BadName) = ⊥
CommitLeaves p old new (Err TooBig) = ⊥
CommitLeaves p old new (Err Memory) = ⊥

-- the store once the log was written into the other bank, where too few bytes were free
abbrev pub with_room_for : ℕ → HeldStore → HeldStore
with_room_for bytes s =
    if nat_le bytes (free_of s.log)
    then s
    else record s { log = log_reclaimed s.log (live_size s) }

-- what a call for room leaves of the store
abbrev pub RoomLeft : {T : Type 0} → ℕ → HeldStore → HeldStore → Result T StoreFault → Type 0
RoomLeft bytes old new (Ok x) = new ≡ with_room_for bytes old
RoomLeft bytes old new (Err (Log Flash)) =
    new ≡ record old { log = record old.log { stale = true } }
RoomLeft bytes old new (Err (Log NoBank)) = ⊥
RoomLeft bytes old new (Err (Log Full)) = new ≡ old
RoomLeft bytes old new (Err (Log Stale)) = new ≡ old
RoomLeft bytes old new (Err (Log log.Memory)) = ⊥
RoomLeft bytes old new (Err BadName) = ⊥
RoomLeft bytes old new (Err TooBig) = ⊥
RoomLeft bytes old new (Err Memory) = new ≡ old

-- there is room for so many bytes, or can be made
abbrev pub has_room : ℕ → HeldStore → Bool
has_room bytes s = not (is_log_full (live_size s) bytes s.log)

-- when each answer to a call for room comes: Stale exactly after a fault, Full exactly where there
-- is no room; want of memory is free
abbrev pub AnswersRoom : {T : Type 0} → ℕ → HeldStore → Result T StoreFault → Type 0
AnswersRoom bytes s (Ok x) = (s.log.stale ≡ false) × (has_room bytes s ≡ true)
AnswersRoom bytes s (Err (Log Flash)) = (s.log.stale ≡ false) × (has_room bytes s ≡ true)
AnswersRoom bytes s (Err (Log NoBank)) = ⊥
AnswersRoom bytes s (Err (Log Full)) = (s.log.stale ≡ false) × (has_room bytes s ≡ false)
AnswersRoom bytes s (Err (Log Stale)) = s.log.stale ≡ true
AnswersRoom bytes s (Err (Log log.Memory)) = ⊥
AnswersRoom bytes s (Err BadName) = ⊥
AnswersRoom bytes s (Err TooBig) = ⊥
AnswersRoom bytes s (Err Memory) = Unit {0}

-- where an answer is neither Ok nor Flash, nothing of the bench has changed
abbrev pub StaysUnlessFlash : {T : Type 0} → BenchValue → BenchValue → Result T StoreFault
    → Type 0
StaysUnlessFlash old new (Ok x) = Unit {0}
StaysUnlessFlash old new (Err (Log Flash)) = Unit {0}
StaysUnlessFlash old new (Err (Log NoBank)) = new ≡ old
StaysUnlessFlash old new (Err (Log Full)) = new ≡ old
StaysUnlessFlash old new (Err (Log Stale)) = new ≡ old
StaysUnlessFlash old new (Err (Log log.Memory)) = new ≡ old
StaysUnlessFlash old new (Err BadName) = new ≡ old
StaysUnlessFlash old new (Err TooBig) = new ≡ old
StaysUnlessFlash old new (Err Memory) = new ≡ old
