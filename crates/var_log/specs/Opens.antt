-- What `open` finds on the banks, and what it leaves.
use Rattle.std.specs.Prelude.{◌≡◌, ◌⊎◌, ℕ, ◌+◌, ◌-◌, ◌<◌, ◌^◌, ◌==◌, ◌||◌, Bool, true, false, not}
use Rattle.std.specs.Prelude.{List, length, get_or, Option, Some, None, option_map}
use Rattle.std.specs.Prelude.{unwrap_or, Result, Ok, Err, if◌then◌else◌, All, IsTrue, nat_lt}
use Rattle.std.specs.Ordering.{nat_cmp, ordering_then}
use Rattle.std.specs.declared.cmp.Ordering.{Ordering}
use Rattle.std.specs.Cmp.Lexicographic.{slice_cmp}
use Rattle.std.specs.List.{flat_map}
use Rattle.std.specs.List.Sorted.{IsStrictlySortedBy}
use Rattle.bench_model.specs.Bench.{AreImages, BenchValue}
use Rattle.var_log.specs.declared.change.Change.{Change}
use Rattle.var_log.specs.declared.change.Change.TheVariants.{Set, Delete}
use Rattle.var_log.specs.declared.choosing.Chosen.{Chosen}
use Rattle.var_log.specs.declared.fault.LogFault.{LogFault}
use Rattle.var_log.specs.declared.fault.LogFault.TheVariants.{Flash, NoBank, Full, Stale, Memory}
use Rattle.var_log.specs.declared.limits.TheConstants.{OPEN_GATE}
use Rattle.var_log.specs.declared.opening.Found.{Found}
use Rattle.var_log.specs.Banks.{StoreValue, format_of, generation_of, last_of, log_bank, store_of}
use Rattle.var_log.specs.Banks.{reclaimed_store, taken}
use Rattle.var_log.specs.Changes.{after, guid_of, keeps_limits, name_of, no_variables}
use Rattle.var_log.specs.Logs.{IsLogOf, LogValue}
use Rattle.cu_base.specs.Kept.{Kept}
use Rattle.var_log.specs.Records.{Entry, body_of, entries_in, record_size}

-- two headers as those of banks 0 and 1
abbrev pub heads : List ℕ → List ℕ → ℕ → List ℕ
heads first second k = if k == 0 then first else second

-- the bank of the log, and what its header tells
pub record IsBankOf (banks : ℕ → List ℕ) (c : Chosen) : Type 0 where
  pub bank : log_bank banks ≡ Some c.bank
  pub low : c.bank < 2
  pub format : c.format ≡ format_of (banks c.bank)
  pub generation : c.generation ≡ generation_of (banks c.bank)
  pub other_gate : c.other_gate ≡ (get_or (banks (1 - c.bank)) 0 0 == OPEN_GATE)

-- the same, or no bank is open
abbrev pub IsChosen : (ℕ → List ℕ) → Option Chosen → Type 0
IsChosen banks (Some c) = IsBankOf banks c
IsChosen banks None = log_bank banks ≡ None

-- a change is a set
abbrev pub is_set : Change → Bool
is_set (Set name guid attributes value) = true
is_set (Delete name guid) = false

-- changes are in the order of the bytes of their GUID, and then of their name
abbrev pub change_order : Change → Change → Ordering
change_order a b =
    ordering_then (slice_cmp nat_cmp (guid_of a).bytes (guid_of b).bytes)
    (slice_cmp nat_cmp (name_of a) (name_of b))

-- these are the variables that changes leave: each as one set within its limits, in order
pub record AreLeftBy (changes live : List Change) : Type 0 where
  pub is : after no_variables live ≡ after no_variables changes
  pub sets : All (λ c. IsTrue (is_set c)) live
  pub ordered : IsStrictlySortedBy change_order live
  pub limits : All (λ c. IsTrue (keeps_limits c)) changes
      → All (λ c. IsTrue (keeps_limits c)) live

-- what is found in a bank by its header and the bytes behind it
pub record IsFoundIn (c : Chosen) (records : List ℕ) (log : LogValue)
    (live : List Change) : Type 0 where
  pub entries : List Entry
  pub are : entries ≡ entries_in (16 + length records) c.format None records
  pub bank : log.bank ≡ c.bank
  pub ends : log.at ≡ 16 + taken entries
  pub size : log.size ≡ 16 + length records
  pub seq : unwrap_or (last_of None entries) 0 ≡ log.seq
  pub generation : log.generation ≡ c.generation
  pub closed : log.closed ≡ not (get_or records (taken entries) 0 == OPEN_GATE)
  pub other_gate : log.other_gate ≡ c.other_gate
  pub pending : log.pending ≡ None
  pub fresh : log.stale ≡ false
  pub live_is : AreLeftBy (flat_map (λ e. e.changes) entries) live

-- the store that a log and its variables are
abbrev pub log_store : LogValue → List Change → StoreValue
log_store log live = record {
  variables = after no_variables live;
  seq = log.seq;
  generation = log.generation;
}

-- the log of the banks has format 1
abbrev pub is_old : (ℕ → List ℕ) → Bool
is_old banks = unwrap_or (option_map (λ k. format_of (banks k) == 1) (log_bank banks)) false

-- the store of the banks once it was opened: one of format 1 is written anew
abbrev pub opened_store : (ℕ → List ℕ) → Option StoreValue
opened_store banks =
    if is_old banks then option_map reclaimed_store (store_of banks) else store_of banks

-- these are all variables of a store, each as one set within its limits, in order
pub record AreVariables (store : Option StoreValue) (live : List Change) : Type 0 where
  pub are : option_map (λ s. s.variables) store ≡ Some (after no_variables live)
  pub sets : All (λ c. IsTrue (is_set c)) live
  pub ordered : IsStrictlySortedBy change_order live
  pub limits : All (λ c. IsTrue (keeps_limits c)) live

-- the variables do not fit a bank of format 2, or the generation is the greatest
abbrev pub is_migration_full : ℕ → ℕ → List Change → Bool
is_migration_full size generation live =
    nat_lt size (17 + record_size 2 (length (body_of live))) || generation == 2 ^ 64 - 1

-- what was opened: the store as read with its variables in order, in a log that nothing is in doubt
-- of
pub record IsOpened (banks : ℕ → List ℕ) (log : LogValue) (live : List Change) : Type 0 where
  pub store : opened_store banks ≡ Some (log_store log live)
  pub variables : AreVariables (store_of banks) live
  pub fits : (s : StoreValue) → store_of banks ≡ Some s → is_old banks ≡ true
      → is_migration_full (length (banks 0)) s.generation live ≡ false
  pub pending : log.pending ≡ None
  pub fresh : log.stale ≡ false

-- a log of format 1 that cannot be written anew
pub record CannotMigrate (banks : ℕ → List ℕ) : Type 0 where
  pub old : is_old banks ≡ true
  pub live : List Change
  pub variables : AreVariables (store_of banks) live
  pub store : StoreValue
  pub is : store_of banks ≡ Some store
  pub full : is_migration_full (length (banks 0)) store.generation live ≡ true

-- what is answered on these banks
abbrev pub OpenAnswers : (ℕ → List ℕ) → Result (LogValue × Kept Change) LogFault → Type 0
OpenAnswers banks (Ok r) = IsOpened banks r.0 r.1.items
OpenAnswers banks (Err Flash) = Unit {0}
OpenAnswers banks (Err NoBank) = store_of banks ≡ None
OpenAnswers banks (Err Full) = CannotMigrate banks
OpenAnswers banks (Err Stale) = ⊥
OpenAnswers banks (Err Memory) = Unit {0}

-- a store is that of an image before, or that one under the next generation
pub record IsStoreBefore (old : BenchValue) (store : Option StoreValue) : Type 0 where
  pub image : ℕ → List ℕ
  pub was : AreImages old.contents image
  pub is : (store ≡ store_of image) ⊎ (store ≡ option_map reclaimed_store (store_of image))

-- each image has the variables and the number of an image before
abbrev pub KeepsStores : BenchValue → BenchValue → Type 0
KeepsStores old new =
    (image : ℕ → List ℕ) → AreImages new.contents image → IsStoreBefore old (store_of image)

-- the moves of an open: two, and those of a reclaim where the log has format 1
abbrev pub opening_moves : (ℕ → List ℕ) → ℕ
opening_moves banks = if is_old banks then 8 else 2

-- what was read of the banks: the log that lies there, the format of its bank, and its variables
pub record IsReadFrom (banks : ℕ → List ℕ) (format : ℕ) (log : LogValue)
    (live : List Change) : Type 0 where
  pub is : IsLogOf log banks
  pub format_is : format_of (banks log.bank) ≡ format
  pub known : (format ≡ 1) ⊎ (format ≡ 2)
  pub variables : AreVariables (store_of banks) live
  pub store : store_of banks ≡ Some (log_store log live)
  pub pending : log.pending ≡ None
  pub fresh : log.stale ≡ false

-- what is found on these banks
abbrev pub FoundOn : (ℕ → List ℕ) → Result Found LogFault → Type 0
FoundOn banks (Ok f) = IsReadFrom banks f.format f.log f.live.items
FoundOn banks (Err Flash) = Unit {0}
FoundOn banks (Err NoBank) = store_of banks ≡ None
FoundOn banks (Err Full) = Unit {0}
FoundOn banks (Err Stale) = Unit {0}
FoundOn banks (Err Memory) = Unit {0}

-- an answer is Ok, Flash or Memory
abbrev pub IsFlashOrMemory : {T : Type 0} → Result T LogFault → Type 0
IsFlashOrMemory (Ok x) = Unit {0}
IsFlashOrMemory (Err Flash) = Unit {0}
IsFlashOrMemory (Err NoBank) = ⊥
IsFlashOrMemory (Err Full) = ⊥
IsFlashOrMemory (Err Stale) = ⊥
IsFlashOrMemory (Err Memory) = Unit {0}

-- the same, or NoBank
abbrev pub IsReadingFault : {T : Type 0} → Result T LogFault → Type 0
IsReadingFault (Ok x) = Unit {0}
IsReadingFault (Err Flash) = Unit {0}
IsReadingFault (Err NoBank) = Unit {0}
IsReadingFault (Err Full) = ⊥
IsReadingFault (Err Stale) = ⊥
IsReadingFault (Err Memory) = Unit {0}
