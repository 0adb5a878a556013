-- A log as it was opened, and the flash that it stands on.
use Rattle.std.specs.Prelude.{◌≡◌, ◌⊎◌, ℕ, ◌+◌, ◌-◌, ◌<◌, ◌≤◌, ◌==◌, Bool, true, false}
use Rattle.std.specs.Prelude.{not, List, length}
use Rattle.std.specs.Prelude.{get_or, Option, Some, None, option_map, unwrap_or, Result, Ok, Err}
use Rattle.std.specs.Prelude.{if◌then◌else◌, ◌^◌, ◌&&◌, ◌||◌, nat_lt, nat_le}
use Rattle.bench_model.specs.declared.limits.TheConstants.{MIN_BANK, MAX_BANK}
use Rattle.bench_model.specs.Bench.{BenchValue, AreImages, IsRegionStable}
use Rattle.var_log.specs.declared.change.Change.{Change}
use Rattle.var_log.specs.declared.fault.LogFault.{LogFault}
use Rattle.var_log.specs.declared.fault.LogFault.TheVariants.{Flash, NoBank, Full, Stale, Memory}
use Rattle.var_log.specs.declared.limits.TheConstants.{OPEN_GATE}
use Rattle.var_log.specs.Banks.{StoreValue, end_of, entries_of, format_of, generation_of}
use Rattle.var_log.specs.Banks.{last_of, log_bank, store_of, with_batch, is_headed, empty_store}
use Rattle.var_log.specs.Banks.{reclaimed_store}
use Rattle.var_log.specs.Changes.{after, no_variables}

-- a log: the bank that it is in, where its records end, the bytes of a bank, the number of its last
-- batch and its generation; whether the byte at its end is no open gate, and that at the front of
-- the other bank one; the number of the batch in doubt; and whether the flash failed it
pub record LogValue : Type 0 where
  pub bank : ℕ
  pub at : ℕ
  pub size : ℕ
  pub seq : ℕ
  pub generation : ℕ
  pub closed : Bool
  pub other_gate : Bool
  pub pending : Option ℕ
  pub stale : Bool

-- the bytes of records that can still be appended
abbrev pub free_of : LogValue → ℕ
free_of log = if log.closed then log.size - log.at - 1 else 0

-- where a log is
pub record IsLog (log : LogValue) : Type 0 where
  pub bank : log.bank < 2
  pub behind : 16 ≤ log.at
  pub within : log.at < log.size
  pub size : log.size ≤ MAX_BANK

-- the flash has not failed the log, and no batch is in doubt
pub record IsFresh (log : LogValue) : Type 0 where
  pub pending : log.pending ≡ None
  pub stale : log.stale ≡ false

-- regions 0 and 1 are there, of one size within the limits of a bank
pub record HasBanks (b : BenchValue) : Type 0 where
  pub there : 2 ≤ b.contents.regions
  pub same : length (b.contents.bytes 1) ≡ length (b.contents.bytes 0)
  pub low : MIN_BANK ≤ length (b.contents.bytes 0)
  pub high : length (b.contents.bytes 0) ≤ MAX_BANK

-- the log is that of these banks, in either format
pub record IsLogOf (log : LogValue) (banks : ℕ → List ℕ) : Type 0 where
  pub bank : log_bank banks ≡ Some log.bank
  pub seq : unwrap_or (last_of None (entries_of (banks log.bank))) 0 ≡ log.seq
  pub generation : generation_of (banks log.bank) ≡ log.generation
  pub ends : end_of (banks log.bank) ≡ log.at
  pub closed : log.closed ≡ not (get_or (banks log.bank) log.at 0 == OPEN_GATE)
  pub other : log.other_gate ≡ (get_or (banks (1 - log.bank)) 0 0 == OPEN_GATE)

-- what holds where the bytes of the flash are told
pub record LiesWhereTold (log : LogValue) (b : BenchValue) : Type 0 where
  pub first : IsRegionStable 0 b
  pub second : IsRegionStable 1 b
  pub is : IsLogOf log b.contents.bytes

-- the log lies on the flash, in either format: its banks have the log's size, and where they are
-- told they are not dirty, and their bytes are this log
pub record LiesOn (log : LogValue) (b : BenchValue) : Type 0 where
  pub size : (k : ℕ) → k < 2 → length (b.contents.bytes k) ≡ log.size
  pub told : b.contents.told ≡ true → LiesWhereTold log b

-- the log stands on the flash: it lies there in format 2
pub record StandsOn (log : LogValue) (b : BenchValue) : Type 0 where
  pub lies : LiesOn log b
  pub format : b.contents.told ≡ true → format_of (b.contents.bytes log.bank) ≡ 2

-- the log once a record of so many bytes was appended
abbrev pub log_after : LogValue → ℕ → LogValue
log_after log n = record log { at = log.at + n; seq = log.seq + 1; closed = true }

-- the log once the flash failed an append
abbrev pub in_doubt : LogValue → LogValue
in_doubt log = record log { pending = Some (log.seq + 1); stale = true }

-- the store of the banks as read
abbrev pub store_as_read : BenchValue → Option StoreValue
store_as_read b = store_of b.contents.bytes

-- a store with one batch more
abbrev pub store_with : List Change → Option StoreValue → Option StoreValue
store_with changes = option_map (λ s. with_batch s changes)

-- in each image the batch stands or not, wholly
abbrev pub HasBatchOrNot : List Change → BenchValue → BenchValue → Type 0
HasBatchOrNot changes old new =
    (image : ℕ → List ℕ) → AreImages new.contents image
    → (store_of image ≡ store_as_read old)
    ⊎ (store_of image ≡ store_with changes (store_as_read old))

-- in each image the batch stands
abbrev pub HasBatch : List Change → BenchValue → BenchValue → Type 0
HasBatch changes old new =
    (image : ℕ → List ℕ) → AreImages new.contents image
    → store_of image ≡ store_with changes (store_as_read old)

-- an answer is that the log was left after a fault
abbrev pub is_stale : {T : Type 0} → Result T LogFault → Bool
is_stale (Ok x) = false
is_stale (Err Flash) = false
is_stale (Err NoBank) = false
is_stale (Err Full) = false
is_stale (Err Stale) = true
is_stale (Err Memory) = false

-- what an append leaves of the log: a record more, or a batch in doubt, or nothing changed
abbrev pub AppendLeaves : {T : Type 0} → ℕ → LogValue → LogValue → Result T LogFault → Type 0
AppendLeaves n old new (Ok x) = new ≡ log_after old n
AppendLeaves n old new (Err Flash) = new ≡ in_doubt old
AppendLeaves n old new (Err NoBank) = ⊥
AppendLeaves n old new (Err Full) = ⊥
AppendLeaves n old new (Err Stale) = new ≡ old
AppendLeaves n old new (Err Memory) = ⊥

-- the log of these fields
abbrev pub log_of : ℕ → ℕ → ℕ → ℕ → ℕ → Bool → Bool → Option ℕ → Bool → LogValue
log_of bank at size seq generation closed other_gate pending stale = record {
  bank = bank;
  at = at;
  size = size;
  seq = seq;
  generation = generation;
  closed = closed;
  other_gate = other_gate;
  pending = pending;
  stale = stale;
}

-- no bank is dirty, and none carries a header, whatever its gate
pub record IsUnheaded (b : BenchValue) : Type 0 where
  pub first : IsRegionStable 0 b
  pub second : IsRegionStable 1 b
  pub heads : (k : ℕ) → k < 2 → is_headed (b.contents.bytes k) ≡ false

-- each image is no log or the empty one
abbrev pub IsEmptyOrNone : BenchValue → Type 0
IsEmptyOrNone b =
    (image : ℕ → List ℕ) → AreImages b.contents image
    → (store_of image ≡ None) ⊎ (store_of image ≡ Some empty_store)

-- each image is the empty log
abbrev pub IsEmptyLog : BenchValue → Type 0
IsEmptyLog b =
    (image : ℕ → List ℕ) → AreImages b.contents image → store_of image ≡ Some empty_store

-- nothing changes but the banks, counts and the plan
pub record ChangesBanks (old new : BenchValue) : Type 0 where
  pub told : new.contents.told ≡ old.contents.told
  pub regions : new.contents.regions ≡ old.contents.regions
  pub long : (k : ℕ) → k < 2 → length (new.contents.bytes k) ≡ length (old.contents.bytes k)
  pub bytes : (k : ℕ) → 2 ≤ k → new.contents.bytes k ≡ old.contents.bytes k
  pub dirty : (k : ℕ) → 2 ≤ k → new.contents.dirty k ≡ old.contents.dirty k
  pub rest : new.contents.rest ≡ old.contents.rest
  pub spare : new.spare ≡ old.spare
  pub orders : new.orders ≡ old.orders

-- an answer is Ok or Flash
abbrev pub IsDoneOrFlash : {T : Type 0} → Result T LogFault → Type 0
IsDoneOrFlash (Ok x) = Unit {0}
IsDoneOrFlash (Err Flash) = Unit {0}
IsDoneOrFlash (Err NoBank) = ⊥
IsDoneOrFlash (Err Full) = ⊥
IsDoneOrFlash (Err Stale) = ⊥
IsDoneOrFlash (Err Memory) = ⊥

-- an answer is that the log takes no such record
abbrev pub is_full : {T : Type 0} → Result T LogFault → Bool
is_full (Ok x) = false
is_full (Err Flash) = false
is_full (Err NoBank) = false
is_full (Err Full) = true
is_full (Err Stale) = false
is_full (Err Memory) = false

-- the other bank does not take n bytes of what lives and so many more, or the generation is the
-- greatest
abbrev pub is_bank_full : ℕ → ℕ → LogValue → Bool
is_bank_full n bytes log = nat_lt log.size (17 + n + bytes) || log.generation == 2 ^ 64 - 1

-- there is no room for so many bytes: the last number is the greatest, or too few are free, and
-- either too few would be once what lives takes n bytes of the other bank, or the generation is the
-- greatest
abbrev pub is_log_full : ℕ → ℕ → LogValue → Bool
is_log_full n bytes log =
    log.seq == 2 ^ 64 - 1 || (nat_lt (free_of log) bytes && is_bank_full n bytes log)

-- these changes make exactly the variables of the log
abbrev pub IsLive : List Change → BenchValue → Type 0
IsLive live b =
    b.contents.told ≡ true
    → option_map (λ s. s.variables) (store_as_read b) ≡ Some (after no_variables live)

-- in each image the store is as it was, or it was reclaimed
abbrev pub KeepsVariables : BenchValue → BenchValue → Type 0
KeepsVariables old new =
    (image : ℕ → List ℕ) → AreImages new.contents image
    → (store_of image ≡ store_as_read old)
    ⊎ (store_of image ≡ option_map reclaimed_store (store_as_read old))

-- the log once what lives was written into the other bank, where it takes n bytes
abbrev pub log_reclaimed : LogValue → ℕ → LogValue
log_reclaimed log n = record log {
  bank = 1 - log.bank;
  at = 16 + n;
  generation = log.generation + 1;
  closed = true;
  other_gate = true;
}

-- what a reclaim leaves of the log, where what lives takes n bytes of the other bank
abbrev pub ReclaimLeaves : {T : Type 0} → ℕ → LogValue → LogValue → Result T LogFault → Type 0
ReclaimLeaves n old new (Ok x) = new ≡ log_reclaimed old n
ReclaimLeaves n old new (Err Flash) = new ≡ record old { stale = true }
ReclaimLeaves n old new (Err NoBank) = ⊥
ReclaimLeaves n old new (Err Full) = new ≡ old
ReclaimLeaves n old new (Err Stale) = ⊥
ReclaimLeaves n old new (Err Memory) = new ≡ old

-- what a call for room leaves of the log
abbrev pub RoomLeaves : {T : Type 0} → ℕ → ℕ → LogValue → LogValue → Result T LogFault → Type 0
RoomLeaves n bytes old new (Ok x) =
    new ≡ (if nat_le bytes (free_of old) then old else log_reclaimed old n)
RoomLeaves n bytes old new (Err Flash) = new ≡ record old { stale = true }
RoomLeaves n bytes old new (Err NoBank) = ⊥
RoomLeaves n bytes old new (Err Full) = new ≡ old
RoomLeaves n bytes old new (Err Stale) = new ≡ old
RoomLeaves n bytes old new (Err Memory) = new ≡ old

-- where an answer is neither Ok nor Flash, nothing of the bench has changed
abbrev pub StaysUnlessFlash : {T : Type 0} → BenchValue → BenchValue → Result T LogFault → Type 0
StaysUnlessFlash old new (Ok x) = Unit {0}
StaysUnlessFlash old new (Err Flash) = Unit {0}
StaysUnlessFlash old new (Err NoBank) = new ≡ old
StaysUnlessFlash old new (Err Full) = new ≡ old
StaysUnlessFlash old new (Err Stale) = new ≡ old
StaysUnlessFlash old new (Err Memory) = new ≡ old
