-- What a call that opens the store and commits a batch answers and notes.
use Rattle.std.specs.Prelude.{◌≡◌, ◌⊎◌, ℕ, ◌+◌, true, false, List, Option, Some, None, Result, Ok}
use Rattle.std.specs.Prelude.{Err}
use Rattle.std.specs.Prelude.{is_some, option_map}
use Rattle.bench_model.specs.Bench.{BenchValue}
use Rattle.update_inbox.specs.declared.fault.InboxFault.{InboxFault}
use Rattle.update_inbox.specs.declared.fault.InboxFault.TheVariants as inbox
use Rattle.var_log.specs.declared.fault.LogFault.TheVariants.{Flash, NoBank, Full, Stale}
use Rattle.var_log.specs.declared.fault.LogFault.TheVariants as log
use Rattle.var_store.specs.declared.fault.StoreFault.{StoreFault}
use Rattle.var_store.specs.declared.fault.StoreFault.TheVariants.{Log, BadName, TooBig, Memory}
use Rattle.var_store.specs.declared.note.Note.{Note}
use Rattle.var_log.specs.declared.change.Change.{Change}
use Rattle.var_log.specs.Banks.{store_of}
use Rattle.var_log.specs.Changes.{Variables}
use Rattle.var_log.specs.Counts.{raised, with_room}
use Rattle.var_log.specs.Logs.{free_of}
use Rattle.var_log.specs.Opens.{CannotMigrate, opened_store, opening_moves}
use Rattle.var_store.specs.Stores.{HeldStore, prepared_of, store_value, variables_of}
use Rattle.var_store.specs.Writes.{RoomIs}

-- a fault of the store as one of the inbox
abbrev pub inbox_fault_of : StoreFault → InboxFault
inbox_fault_of (Log Flash) = inbox.Flash
inbox_fault_of (Log NoBank) = inbox.NoBank
inbox_fault_of (Log Full) = inbox.NoBank
inbox_fault_of (Log Stale) = inbox.NoBank
inbox_fault_of (Log log.Memory) = inbox.NoBank
inbox_fault_of BadName = inbox.NoBank
inbox_fault_of TooBig = inbox.NoBank
inbox_fault_of Memory = inbox.Memory

-- the note of a store that was not opened
abbrev pub nothing_noted : Note
nothing_noted = record { opened = None; pending = None }

-- the number of the store that was opened is noted
abbrev pub opened_at : ℕ → Note
opened_at seq = record { opened = Some seq; pending = None }

-- what was noted of the opening: the number of the store that the banks were
abbrev pub NotesOpening : BenchValue → Option ℕ → Type 0
NotesOpening old None = Unit {0}
NotesOpening old (Some seq) =
    old.contents.told ≡ true → option_map (λ s. s.seq) (opened_store old.contents.bytes) ≡ Some seq

-- what was noted of the batch: none is in doubt, or that behind the number at opening
abbrev pub NotesBatch : Note → Type 0
NotesBatch note = (note.pending ≡ None) ⊎ (note.pending ≡ option_map (λ n. n + 1) note.opened)

-- the store that was opened: that of the banks, under the next generation where its format was old
pub record IsOpening (old : BenchValue) (s : HeldStore) : Type 0 where
  pub is : old.contents.told ≡ true → opened_store old.contents.bytes ≡ Some (store_value s)

-- there is no store to open: no bank is open, or the open one has the old format and cannot be
-- written anew
abbrev pub HasNoStore : BenchValue → Type 0
HasNoStore old =
    old.contents.told ≡ true
    → (store_of old.contents.bytes ≡ None) ⊎ CannotMigrate old.contents.bytes

-- when each answer of an opening comes
abbrev pub OpeningAnswers : {T : Type 0} → BenchValue → Result T InboxFault → Type 0
OpeningAnswers old (Ok x) = Unit {0}
OpeningAnswers old (Err inbox.Invalid) = ⊥
OpeningAnswers old (Err inbox.Unsupported) = ⊥
OpeningAnswers old (Err inbox.Resources) = ⊥
OpeningAnswers old (Err inbox.Flash) = Unit {0}
OpeningAnswers old (Err inbox.Volume) = ⊥
OpeningAnswers old (Err inbox.NoBank) = HasNoStore old
OpeningAnswers old (Err inbox.Memory) = Unit {0}

-- the store that was opened takes no batch of these changes
pub record HasNoRoom (batch : Variables → List Change) (old : BenchValue) : Type 0 where
  pub store : HeldStore
  pub opened : IsOpening old store
  pub none : RoomIs (prepared_of (batch (variables_of store))).size store false

-- when each answer of a call that opens the store and commits a batch comes
abbrev pub BatchAnswers : {T : Type 0} → (Variables → List Change) → BenchValue
    → Result T InboxFault → Type 0
BatchAnswers batch old (Ok x) = Unit {0}
BatchAnswers batch old (Err inbox.Invalid) = ⊥
BatchAnswers batch old (Err inbox.Unsupported) = ⊥
BatchAnswers batch old (Err inbox.Resources) = ⊥
BatchAnswers batch old (Err inbox.Flash) = Unit {0}
BatchAnswers batch old (Err inbox.Volume) = ⊥
BatchAnswers batch old (Err inbox.NoBank) = HasNoStore old ⊎ HasNoRoom batch old
BatchAnswers batch old (Err inbox.Memory) = Unit {0}

-- how many moves a call made: those of the opening, 6 where room was made, and 4 of the batch
pub record MovesOfBatch (batch : Variables → List Change) (old new : BenchValue) : Type 0 where
  pub store : HeldStore
  pub opened : IsOpening old store
  pub are : old.contents.told ≡ true → new.counts.moves
      ≡ raised (with_room (raised old.counts.moves (opening_moves old.contents.bytes))
      (prepared_of (batch (variables_of store))).size (free_of store.log)) 4

-- a number at opening is noted wherever the answer came behind the opening
abbrev pub NotesOpened : {T : Type 0} → Result T InboxFault → Option ℕ → Type 0
NotesOpened (Ok x) opened = is_some opened ≡ true
NotesOpened (Err inbox.Invalid) opened = is_some opened ≡ true
NotesOpened (Err inbox.Unsupported) opened = is_some opened ≡ true
NotesOpened (Err inbox.Resources) opened = is_some opened ≡ true
NotesOpened (Err inbox.Flash) opened = Unit {0}
NotesOpened (Err inbox.Volume) opened = Unit {0}
NotesOpened (Err inbox.NoBank) opened = Unit {0}
NotesOpened (Err inbox.Memory) opened = Unit {0}
