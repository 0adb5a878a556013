-- An attempt: a claim with its batch, and a batch for each way of settling it, all prepared. None of
-- them takes memory when it is committed.
use Rattle.std.specs.Prelude.{◌≡◌, ℕ, ◌+◌, ◌-◌, ◌<◌, ◌≤◌, ◌^◌, List, [], false, true, length, max}
use Rattle.std.specs.Prelude.{Option, None, Some, Result, Ok, Err}
use Rattle.bench_model.specs.Boards.{BoardValue}
use Rattle.bench_model.specs.Regions.{Region, IsImage}
use Rattle.cu_base.specs.declared.time.EfiTime.{EfiTime}
use Rattle.dev_claims.specs.Ended.{claim_settled, is_same_ticket}
use Rattle.dev_claims.specs.Units.{claim_changes, next_result}
use Rattle.dev_claims.specs.declared.fault.ClaimFault.{ClaimFault}
use Rattle.dev_claims.specs.declared.fault.ClaimFault.TheVariants as claims
use Rattle.fmp_slot.specs.Held.{HeldSlot}
use Rattle.reference_machine.specs.Results.{status_with}
use Rattle.reference_machine.specs.declared.unit.End.{End}
use Rattle.reference_machine.specs.declared.unit.End.TheVariants.{Refused, Sealed, Kept, Lost}
use Rattle.reference_machine.specs.declared.unit.Kind.TheVariants.{Try}
use Rattle.reference_machine.specs.declared.unit.UnitLine.{UnitLine}
use Rattle.stored_vars.specs.declared.claim.Claim.{Claim}
use Rattle.var_log.specs.Changes.{Variables}
use Rattle.var_log.specs.Logs.{free_of, in_doubt}
use Rattle.var_log.specs.declared.change.Change.{Change}
use Rattle.var_log.specs.declared.fault.LogFault.TheVariants.{Flash, NoBank, Full, Stale}
use Rattle.var_log.specs.declared.fault.LogFault.TheVariants as log
use Rattle.var_store.specs.Answers.{IsCommitted}
use Rattle.var_store.specs.Places.{HavePlaces}
use Rattle.var_store.specs.Stores.{HeldStore, PreparedValue, prepared_of}
use Rattle.var_store.specs.declared.fault.StoreFault.TheVariants.{Log, BadName, TooBig, Memory}

-- an attempt: its claim, the number of its result, that at which the store was left, and what is
-- prepared; the batch of the claim is there until it is committed
pub record AttemptValue : Type 0 where
  pub claim : Claim
  pub number : ℕ
  pub seq : ℕ
  pub claiming : Option PreparedValue
  pub sealed : PreparedValue
  pub kept : PreparedValue
  pub lost : PreparedValue

-- the attempt of these fields, in their order
abbrev pub attempt : Claim → ℕ → ℕ → Option PreparedValue → PreparedValue → PreparedValue
    → PreparedValue → AttemptValue
attempt claim number seq claiming sealed kept lost = record {
  claim = claim;
  number = number;
  seq = seq;
  claiming = claiming;
  sealed = sealed;
  kept = kept;
  lost = lost;
}

-- the attempt of a claim on these variables at a moment, left at a number
abbrev pub attempt_at : BoardValue → Variables → EfiTime → Claim → ℕ → AttemptValue
attempt_at board variables now c seq = record {
  claim = c;
  number = next_result board variables;
  seq = seq;
  claiming = Some (prepared_of (claim_changes board variables c));
  sealed = prepared_of (claim_settled board variables now c Sealed);
  kept = prepared_of (claim_settled board variables now c Kept);
  lost = prepared_of (claim_settled board variables now c Lost);
}

-- the batch that settles an attempt by an end; a refusal settles none
abbrev pub settling_of : AttemptValue → End → PreparedValue
settling_of a (Refused status) = prepared_of []
settling_of a Sealed = a.sealed
settling_of a Kept = a.kept
settling_of a Lost = a.lost

-- the bytes of the largest batch that settles an attempt
abbrev pub largest_of : AttemptValue → ℕ
largest_of a = max (max a.sealed.size a.kept.size) a.lost.size

-- the changes that claim an attempt, none once it is claimed
abbrev pub claiming_of : Option PreparedValue → List Change
claiming_of None = []
claiming_of (Some p) = p.changes

-- the line of an attempt that ended
abbrev pub attempt_line : AttemptValue → End → UnitLine
attempt_line a end = record {
  kind = Try;
  key = a.claim.key;
  version = a.claim.version;
  end = Some end;
  status = status_with Try (Some end);
  result = a.number;
}

-- the places of each batch that settles an attempt are there
pub record HaveEndPlaces (a : AttemptValue) (places : List Change) : Type 0 where
  pub for_sealed : HavePlaces a.sealed.changes places
  pub for_kept : HavePlaces a.kept.changes places
  pub for_lost : HavePlaces a.lost.changes places

-- an attempt may be claimed on a store: it is left at the store's number, and the store has room and
-- places for its batches
pub record MayClaim (s : HeldStore) (a : AttemptValue) : Type 0 where
  pub batch : PreparedValue
  pub is : a.claiming ≡ Some batch
  pub places : HavePlaces batch.changes s.places
  pub ends : HaveEndPlaces a s.places
  pub fits : batch.size + largest_of a ≤ free_of s.log
  pub at_number : s.log.seq ≡ a.seq
  pub next : a.seq < 2 ^ 64 - 2

-- an attempt that was claimed may be settled on a store
pub record MaySettle (s : HeldStore) (a : AttemptValue) : Type 0 where
  pub is : a.claiming ≡ None
  pub ends : HaveEndPlaces a s.places
  pub fits : largest_of a ≤ free_of s.log
  pub at_number : s.log.seq ≡ a.seq
  pub next : a.seq < 2 ^ 64 - 1

-- each image of the region is sealed with one slot of the claim: its ticket, version, floor and
-- length
pub record IsSealedFor (slot_of : List ℕ → Option HeldSlot) (c : Claim)
    (region : Region) : Type 0 where
  pub slot : HeldSlot
  pub each : (image : List ℕ) → IsImage region image → slot_of image ≡ Some slot
  pub ticket : slot.head.ticket ≡ c.key.ticket
  pub version : slot.head.version ≡ c.version
  pub floor : slot.head.floor ≡ c.floor
  pub size : length slot.payload ≡ c.length

-- the slot is sealed with another ticket than that of the claim
abbrev pub IsOther : Claim → Option HeldSlot → Type 0
IsOther c None = ⊥
IsOther c (Some s) = is_same_ticket s.head.ticket c.key.ticket ≡ false

-- what every image of a device holds where an attempt on it ended so
abbrev pub HasEnded : (List ℕ → Option HeldSlot) → Claim → Region → End → Type 0
HasEnded slot_of c region (Refused status) = ⊥
HasEnded slot_of c region Sealed = IsSealedFor slot_of c region
HasEnded slot_of c region Kept =
    (image : List ℕ) → IsImage region image → IsOther c (slot_of image)
HasEnded slot_of c region Lost =
    (image : List ℕ) → IsImage region image → slot_of image ≡ None

-- what a commit of an attempt leaves of the store
abbrev pub AttemptLeaves : {T : Type 0} → PreparedValue → HeldStore → HeldStore
    → Result T ClaimFault → Type 0
AttemptLeaves p old new (Ok x) = IsCommitted p.size p.changes old new
AttemptLeaves p old new (Err (claims.Store (Log Flash))) =
    new ≡ record old { log = in_doubt old.log }
AttemptLeaves p old new (Err (claims.Store (Log NoBank))) = ⊥
AttemptLeaves p old new (Err (claims.Store (Log Full))) = ⊥
AttemptLeaves p old new (Err (claims.Store (Log Stale))) = new ≡ old
AttemptLeaves p old new (Err (claims.Store (Log log.Memory))) = ⊥
AttemptLeaves p old new (Err (claims.Store BadName)) = ⊥
AttemptLeaves p old new (Err (claims.Store TooBig)) = ⊥
AttemptLeaves p old new (Err (claims.Store Memory)) = ⊥
AttemptLeaves p old new (Err claims.Flash) = ⊥
AttemptLeaves p old new (Err (claims.Spent progress)) = ⊥
AttemptLeaves p old new (Err claims.Memory) = ⊥

-- when each answer to a commit of an attempt comes: Stale exactly after a fault
abbrev pub AnswersAttempt : {T : Type 0} → HeldStore → Result T ClaimFault → Type 0
AnswersAttempt s (Ok x) = s.log.stale ≡ false
AnswersAttempt s (Err (claims.Store (Log Flash))) = s.log.stale ≡ false
AnswersAttempt s (Err (claims.Store (Log NoBank))) = ⊥
AnswersAttempt s (Err (claims.Store (Log Full))) = ⊥
AnswersAttempt s (Err (claims.Store (Log Stale))) = s.log.stale ≡ true
AnswersAttempt s (Err (claims.Store (Log log.Memory))) = ⊥
AnswersAttempt s (Err (claims.Store BadName)) = ⊥
AnswersAttempt s (Err (claims.Store TooBig)) = ⊥
AnswersAttempt s (Err (claims.Store Memory)) = ⊥
AnswersAttempt s (Err claims.Flash) = ⊥
AnswersAttempt s (Err (claims.Spent progress)) = ⊥
AnswersAttempt s (Err claims.Memory) = ⊥
