-- A store as contracts see it, and the flash that it stands on.
use Rattle.std.specs.Prelude.{◌≡◌, ℕ, true, List, length, Some, All, IsTrue}
use Rattle.bench_model.specs.Bench.{BenchValue}
use Rattle.var_log.specs.declared.change.Change.{Change}
use Rattle.var_log.specs.Banks.{StoreValue}
use Rattle.var_log.specs.Changes.{Variable, Variables, after, keeps_limits, no_variables}
use Rattle.var_log.specs.Logs.{LogValue, StandsOn, store_as_read}
use Rattle.var_log.specs.Opens.{log_store}
use Rattle.var_log.specs.Records.{body_of, record_size}
use Rattle.var_store.specs.Places.{KeepsPlaces, sets_of}
use Rattle.var_store.specs.declared.note.Value.{Value}

-- a store: its log, and the last change of each variable that has a place
pub record HeldStore : Type 0 where
  pub log : LogValue
  pub places : List Change

-- the store of this log and these places
abbrev pub held : LogValue → List Change → HeldStore
held log places = record { log = log; places = places }

-- the variables of a store
abbrev pub variables_of : HeldStore → Variables
variables_of s = after no_variables s.places

-- the map that a store is, with the number of its last batch and its generation
abbrev pub store_value : HeldStore → StoreValue
store_value s = log_store s.log s.places

-- the bytes that the variables of a store take as one record
abbrev pub live_size : HeldStore → ℕ
live_size s = record_size 2 (length (body_of (sets_of s.places)))

-- the store stands on the flash: its log does, and where the bytes are told they are this store
pub record Stands (s : HeldStore) (b : BenchValue) : Type 0 where
  pub log : StandsOn s.log b
  pub store : b.contents.told ≡ true → store_as_read b ≡ Some (store_value s)

-- the store is as it was, but that more variables may have a place
pub record OnlyMakesPlaces (old new : HeldStore) : Type 0 where
  pub log : new.log ≡ old.log
  pub variables : variables_of new ≡ variables_of old
  pub places : KeepsPlaces old.places new.places

-- what `get` lends of a variable
abbrev pub variable_of : Value → Variable
variable_of v = record { attributes = v.attributes; bytes = v.bytes.now }

-- what is prepared: changes, and the bytes that their record takes
pub record PreparedValue : Type 0 where
  pub changes : List Change
  pub size : ℕ

-- the same of the changes of a batch
abbrev pub prepared_of : List Change → PreparedValue
prepared_of changes = record {
  changes = changes;
  size = record_size 2 (length (body_of changes));
}

-- what is prepared of these changes and this size
abbrev pub prepared_with : List Change → ℕ → PreparedValue
prepared_with changes size = record { changes = changes; size = size }

-- the changes that a commit puts into the map are those of its record, each within the limits
pub record IsPrepared (recorded changes : List Change) : Type 0 where
  pub same : changes ≡ recorded
  pub limits : All (λ c. IsTrue (keeps_limits c)) changes
