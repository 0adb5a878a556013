-- What the preparation of an attempt answers, and what each answer leaves.
use Rattle.std.specs.Prelude.{◌≡◌, ◌≢◌, ◌⊎◌, ℕ, ◌+◌, ◌-◌, ◌^◌, ◌==◌, ◌&&◌, Bool, true, false, List}
use Rattle.std.specs.Prelude.{Result, Ok, Err, nat_lt}
use Rattle.bench_model.specs.Bench.{BenchValue}
use Rattle.bench_model.specs.Boards.{BoardValue}
use Rattle.cu_base.specs.declared.time.EfiTime.{EfiTime}
use Rattle.dev_claims.specs.Attempts.{attempt_at, largest_of}
use Rattle.dev_claims.specs.Committing.{are_small}
use Rattle.dev_claims.specs.Ended.{claim_settled}
use Rattle.dev_claims.specs.Units.{claim_changes}
use Rattle.dev_claims.specs.declared.fault.ClaimFault.{ClaimFault}
use Rattle.dev_claims.specs.declared.fault.ClaimFault.TheVariants as claims
use Rattle.reference_machine.specs.declared.unit.End.{End}
use Rattle.stored_vars.specs.Holds.{units_of}
use Rattle.stored_vars.specs.declared.claim.Claim.{Claim}
use Rattle.var_log.specs.Changes.{Variables}
use Rattle.var_log.specs.declared.fault.LogFault.TheVariants.{Flash, NoBank, Full, Stale}
use Rattle.var_log.specs.declared.change.Change.{Change}
use Rattle.var_log.specs.declared.fault.LogFault.TheVariants as log
use Rattle.var_store.specs.Stores.{HeldStore, OnlyMakesPlaces, prepared_of, variables_of}
use Rattle.var_store.specs.Writes.{RoomIs}
use Rattle.var_store.specs.declared.fault.StoreFault.TheVariants.{Log, BadName, TooBig, Memory}

-- the claim is of a file of which more units are spent than its number
abbrev pub is_spent : Variables → Claim → Bool
is_spent variables c =
    c.key.ticket.route == 1 && nat_lt c.key.unit (units_of variables c.key.ticket.serial)

-- the bytes that an attempt needs: those of its claim and of the largest way of settling it
abbrev pub attempt_size : BoardValue → Variables → EfiTime → Claim → ℕ
attempt_size board variables now c =
    (prepared_of (claim_changes board variables c)).size
    + largest_of (attempt_at board variables now c 0)

-- the store has the same variables and number, and no other batch in doubt
pub record KeepsStore (old new : HeldStore) : Type 0 where
  pub seq : new.log.seq ≡ old.log.seq
  pub pending : new.log.pending ≡ old.log.pending
  pub variables : variables_of new ≡ variables_of old

-- what the preparation leaves of the store
abbrev pub PreparingLeaves : {T : Type 0} → HeldStore → HeldStore → Result T ClaimFault → Type 0
PreparingLeaves old new (Ok x) = KeepsStore old new × (new.log.stale ≡ false)
PreparingLeaves old new (Err (claims.Store (Log Flash))) =
    KeepsStore old new × (new.log.stale ≡ true)
PreparingLeaves old new (Err (claims.Store (Log NoBank))) = ⊥
PreparingLeaves old new (Err (claims.Store (Log Full))) = OnlyMakesPlaces old new
PreparingLeaves old new (Err (claims.Store (Log Stale))) = OnlyMakesPlaces old new
PreparingLeaves old new (Err (claims.Store (Log log.Memory))) = ⊥
PreparingLeaves old new (Err (claims.Store BadName)) = ⊥
PreparingLeaves old new (Err (claims.Store TooBig)) = OnlyMakesPlaces old new
PreparingLeaves old new (Err (claims.Store Memory)) = ⊥
PreparingLeaves old new (Err claims.Flash) = ⊥
PreparingLeaves old new (Err (claims.Spent progress)) = new ≡ old
PreparingLeaves old new (Err claims.Memory) = OnlyMakesPlaces old new

-- the claim is not spent, and more than one number is left to the store
pub record IsUnspent (variables : Variables) (c : Claim) (s : HeldStore) : Type 0 where
  pub unspent : is_spent variables c ≡ false
  pub numbers : s.log.seq ≢ 2 ^ 64 - 2

-- the batch that settles a claim by some end is too big
pub record IsTooBig (board : BoardValue) (variables : Variables) (now : EfiTime)
    (c : Claim) : Type 0 where
  pub end : End
  pub big : are_small (claim_settled board variables now c end) ≡ false

-- when each answer comes: Spent first; then Full where only one number is left; then TooBig where
-- the batches that settle are too big, Stale exactly after a fault, and Full where there is no room;
-- want of memory is free
abbrev pub AnswersPreparing : {T : Type 0} → BoardValue → EfiTime → Claim → HeldStore
    → Result T ClaimFault → Type 0
AnswersPreparing board now c s (Ok x) =
    IsUnspent (variables_of s) c s × (s.log.stale ≡ false)
    × RoomIs (attempt_size board (variables_of s) now c) s true
AnswersPreparing board now c s (Err (claims.Store (Log Flash))) =
    IsUnspent (variables_of s) c s × (s.log.stale ≡ false)
    × RoomIs (attempt_size board (variables_of s) now c) s true
AnswersPreparing board now c s (Err (claims.Store (Log NoBank))) = ⊥
AnswersPreparing board now c s (Err (claims.Store (Log Full))) =
    (is_spent (variables_of s) c ≡ false)
    × ((s.log.seq ≡ 2 ^ 64 - 2)
    ⊎ ((s.log.stale ≡ false) × RoomIs (attempt_size board (variables_of s) now c) s false))
AnswersPreparing board now c s (Err (claims.Store (Log Stale))) =
    IsUnspent (variables_of s) c s × (s.log.stale ≡ true)
AnswersPreparing board now c s (Err (claims.Store (Log log.Memory))) = ⊥
AnswersPreparing board now c s (Err (claims.Store BadName)) = ⊥
AnswersPreparing board now c s (Err (claims.Store TooBig)) =
    IsUnspent (variables_of s) c s × IsTooBig board (variables_of s) now c
AnswersPreparing board now c s (Err (claims.Store Memory)) = ⊥
AnswersPreparing board now c s (Err claims.Flash) = ⊥
AnswersPreparing board now c s (Err (claims.Spent progress)) =
    (is_spent (variables_of s) c ≡ true)
    × (progress ≡ units_of (variables_of s) c.key.ticket.serial)
AnswersPreparing board now c s (Err claims.Memory) = IsUnspent (variables_of s) c s

-- the bench with the spare begins of another
abbrev pub with_spare : BenchValue → BenchValue → BenchValue
with_spare old new = record old { spare = new.spare }

-- where an answer is neither Ok nor a fault of the flash, nothing of the bench has changed but its
-- spare begins
abbrev pub StaysUnlessRoomed : {T : Type 0} → BenchValue → BenchValue → Result T ClaimFault
    → Type 0
StaysUnlessRoomed old new (Ok x) = Unit {0}
StaysUnlessRoomed old new (Err (claims.Store (Log Flash))) = Unit {0}
StaysUnlessRoomed old new (Err (claims.Store (Log NoBank))) = new ≡ with_spare old new
StaysUnlessRoomed old new (Err (claims.Store (Log Full))) = new ≡ with_spare old new
StaysUnlessRoomed old new (Err (claims.Store (Log Stale))) = new ≡ with_spare old new
StaysUnlessRoomed old new (Err (claims.Store (Log log.Memory))) = new ≡ with_spare old new
StaysUnlessRoomed old new (Err (claims.Store BadName)) = new ≡ with_spare old new
StaysUnlessRoomed old new (Err (claims.Store TooBig)) = new ≡ with_spare old new
StaysUnlessRoomed old new (Err (claims.Store Memory)) = new ≡ with_spare old new
StaysUnlessRoomed old new (Err claims.Flash) = new ≡ with_spare old new
StaysUnlessRoomed old new (Err (claims.Spent progress)) = new ≡ with_spare old new
StaysUnlessRoomed old new (Err claims.Memory) = new ≡ with_spare old new

-- when a batch is prepared: TooBig exactly where it is too big; want of memory is free
abbrev pub PreparesWithin : {T : Type 0} → List Change → Result T ClaimFault → Type 0
PreparesWithin changes (Ok x) = are_small changes ≡ true
PreparesWithin changes (Err (claims.Store (Log fault))) = ⊥
PreparesWithin changes (Err (claims.Store BadName)) = ⊥
PreparesWithin changes (Err (claims.Store TooBig)) = are_small changes ≡ false
PreparesWithin changes (Err (claims.Store Memory)) = ⊥
PreparesWithin changes (Err claims.Flash) = ⊥
PreparesWithin changes (Err (claims.Spent progress)) = ⊥
PreparesWithin changes (Err claims.Memory) = Unit {0}

-- when the batches of an attempt are prepared
abbrev pub PreparesAll : {T : Type 0} → BoardValue → Variables → EfiTime → Claim
    → Result T ClaimFault → Type 0
PreparesAll board variables now c (Ok x) = Unit {0}
PreparesAll board variables now c (Err (claims.Store (Log fault))) = ⊥
PreparesAll board variables now c (Err (claims.Store BadName)) = ⊥
PreparesAll board variables now c (Err (claims.Store TooBig)) = IsTooBig board variables now c
PreparesAll board variables now c (Err (claims.Store Memory)) = ⊥
PreparesAll board variables now c (Err claims.Flash) = ⊥
PreparesAll board variables now c (Err (claims.Spent progress)) = ⊥
PreparesAll board variables now c (Err claims.Memory) = Unit {0}
