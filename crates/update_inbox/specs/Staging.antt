-- A delivery by memory (UEFI 2.10, 8.5.3): when it is taken, and the batch that stages it.
use Rattle.std.specs.Prelude.{◌≡◌, ◌⊎◌, ℕ, ◌+◌, ◌-◌, ◌^◌, true, List, [], ◌∷◌, find, nat_le}
use Rattle.std.specs.Prelude.{is_none, IfSome, Option, Some, None, Result, Ok, Err}
use Rattle.std.specs.Prelude.{option_map, if◌then◌else◌}
use Rattle.std.specs.List.{range_with_len}
use Rattle.bench_model.specs.Bench.{BenchValue}
use Rattle.reference_machine.specs.Events.{coalesced_refusal}
use Rattle.reference_machine.specs.TraceValues.{AnswerValue}
use Rattle.reference_machine.specs.TraceValues.AnswerValue.{Invalid, Unsupported}
use Rattle.scatter_list.specs.Coalesced.{coalesced_of}
use Rattle.stored_vars.specs.Holds.{last_staged_of, staged_at}
use Rattle.stored_vars.specs.Numbers.{number_bytes, pair_bytes}
use Rattle.stored_vars.specs.Variables.{attributes_of, guid_of, name_of}
use Rattle.stored_vars.specs.declared.limits.TheConstants.{MAX_STAGE_VARIABLES}
use Rattle.stored_vars.specs.declared.variable.StoredVar.TheVariants.{Stage}
use Rattle.stored_vars.specs.declared.variable.StoredVar.TheVariants as var
use Rattle.update_inbox.specs.declared.fault.InboxFault.{InboxFault}
use Rattle.update_inbox.specs.declared.staging.Delivery.{Delivery}
use Rattle.update_inbox.specs.declared.fault.InboxFault.TheVariants as inbox
use Rattle.update_inbox.specs.Answers.{HasNoRoom, HasNoStore, IsOpening, MovesOfBatch}
use Rattle.var_log.specs.declared.change.Change.{Change}
use Rattle.var_log.specs.declared.change.Change.TheVariants.{Set}
use Rattle.var_log.specs.Changes.{Variables}
use Rattle.var_log.specs.Counts.{raised}
use Rattle.var_log.specs.Opens.{opening_moves}
use Rattle.var_store.specs.Stores.{HeldStore, variables_of}

-- why the capsule behind the scatter list at an address is not taken
abbrev pub list_refusal : BenchValue → ℕ → Option AnswerValue
list_refusal b address = coalesced_refusal (coalesced_of b.contents.rest.memory address)

-- an answer to the checks of a capsule is this refusal
abbrev pub ChecksAs : {T : Type 0} → Option AnswerValue → Result T InboxFault → Type 0
ChecksAs refusal (Ok x) = refusal ≡ None
ChecksAs refusal (Err inbox.Invalid) = refusal ≡ Some Invalid
ChecksAs refusal (Err inbox.Unsupported) = refusal ≡ Some Unsupported
ChecksAs refusal (Err inbox.Resources) = ⊥
ChecksAs refusal (Err inbox.Flash) = ⊥
ChecksAs refusal (Err inbox.Volume) = ⊥
ChecksAs refusal (Err inbox.NoBank) = ⊥
ChecksAs refusal (Err inbox.Memory) = Unit {0}

-- the first variable that keeps no delivery
abbrev pub free_stage : Variables → Option ℕ
free_stage variables =
    find (λ k. is_none (staged_at variables k)) (range_with_len 0 MAX_STAGE_VARIABLES)

-- the delivery with the next serial and in the first free variable, none where eight wait or the
-- last serial was drawn
abbrev pub next_delivery : ℕ → Variables → Option Delivery
next_delivery address variables =
    if nat_le (2 ^ 64 - 1) (last_staged_of variables) then None
    else option_map (λ k. record {
      number = k;
      pair = record { serial = last_staged_of variables + 1; address = address };
    }) (free_stage variables)

-- its batch: the delivery, and its serial as the last one
abbrev pub batch_of : Delivery → List Change
batch_of d =
    Set (name_of (Stage d.number)) (guid_of (Stage d.number)) (attributes_of (Stage d.number))
    (pair_bytes d.pair)
    ∷ Set (name_of var.Serial) (guid_of var.Serial) (attributes_of var.Serial)
    (number_bytes d.pair.serial)
    ∷ []

-- the batch of a delivery, where one more is taken
abbrev pub batch_of_next : Option Delivery → List Change
batch_of_next None = []
batch_of_next (Some d) = batch_of d

-- the batch that stages the capsule at an address
abbrev pub stage_batch : ℕ → Variables → List Change
stage_batch address variables = batch_of_next (next_delivery address variables)

-- the store as it was opened takes a delivery of this serial, or none where it is None
pub record Takes (address : ℕ) (old : BenchValue) (serial : Option ℕ) : Type 0 where
  pub store : HeldStore
  pub opened : IsOpening old store
  pub is : option_map (λ d. d.pair.serial) (next_delivery address (variables_of store)) ≡ serial

-- the capsule at an address passed the checks, and the store takes its delivery
pub record IsDelivery (address : ℕ) (old : BenchValue) : Type 0 where
  pub passes : list_refusal old address ≡ None
  pub serial : ℕ
  pub takes : Takes address old (Some serial)

-- a batch is in doubt only where the capsule passed the checks, and the store takes its delivery
abbrev pub IsTaken : ℕ → BenchValue → Option ℕ → Type 0
IsTaken address old pending = IfSome pending (λ number. IsDelivery address old)

-- when each answer to a staging comes
abbrev pub StagingAnswers : ℕ → BenchValue → Result ℕ InboxFault → Type 0
StagingAnswers address old (Ok serial) =
    (list_refusal old address ≡ None) × Takes address old (Some serial)
StagingAnswers address old (Err inbox.Invalid) = list_refusal old address ≡ Some Invalid
StagingAnswers address old (Err inbox.Unsupported) = list_refusal old address ≡ Some Unsupported
StagingAnswers address old (Err inbox.Resources) =
    (list_refusal old address ≡ None) × Takes address old None
StagingAnswers address old (Err inbox.Flash) = Unit {0}
StagingAnswers address old (Err inbox.Volume) = ⊥
StagingAnswers address old (Err inbox.NoBank) =
    HasNoStore old ⊎ HasNoRoom (stage_batch address) old
StagingAnswers address old (Err inbox.Memory) = Unit {0}

-- the moves of a call that opened the store and committed nothing
abbrev pub HasOpeningMoves : BenchValue → BenchValue → Type 0
HasOpeningMoves old new =
    old.contents.told ≡ true
    → new.counts.moves ≡ raised old.counts.moves (opening_moves old.contents.bytes)

-- how many moves a staging made, where it was not stopped by a fault or by want of memory
abbrev pub StagingMoves : ℕ → BenchValue → BenchValue → Result ℕ InboxFault → Type 0
StagingMoves address old new (Ok serial) = MovesOfBatch (stage_batch address) old new
StagingMoves address old new (Err inbox.Invalid) = HasOpeningMoves old new
StagingMoves address old new (Err inbox.Unsupported) = HasOpeningMoves old new
StagingMoves address old new (Err inbox.Resources) = HasOpeningMoves old new
StagingMoves address old new (Err inbox.Flash) = Unit {0}
StagingMoves address old new (Err inbox.Volume) = Unit {0}
StagingMoves address old new (Err inbox.NoBank) = Unit {0}
StagingMoves address old new (Err inbox.Memory) = Unit {0}
