-- What is prepared of an attempt, one batch behind another.
use Rattle.std.proofs.Common.{◌≡◌, ◌⊎◌, inl, inr, ℕ, ◌+◌, ◌-◌, ◌^◌, ◌<◌, ◌≤◌, nat_le, max}
use Rattle.std.proofs.Common.{List, Some, None, Err, refl, sym, ap}
use Rattle.std.proofs.Common.{◌∙◌, subst, arith}
use Rattle.std.proofs.lemmas.Bool.{cases_lt}
use Rattle.bench_model.specs.Bench.{AreImages, BenchValue, Contents}
use Rattle.bench_model.specs.Boards.{BoardValue}
use Rattle.cu_base.specs.Causes.{HasCauseOf, Rose}
use Rattle.cu_base.specs.declared.time.EfiTime.{EfiTime}
use Rattle.dev_claims.specs.Attempts.{AttemptValue, HaveEndPlaces, MayClaim, attempt, attempt_at}
use Rattle.dev_claims.specs.Attempts.{largest_of}
use Rattle.dev_claims.specs.Committing.{claim_fault_of}
use Rattle.dev_claims.specs.Ended.{claim_settled}
use Rattle.dev_claims.specs.Preparing.{AnswersPreparing, IsUnspent, KeepsStore, PreparesWithin}
use Rattle.dev_claims.specs.Preparing.{PreparingLeaves, StaysUnlessRoomed, attempt_size, with_spare}
use Rattle.dev_claims.specs.Units.{claim_changes, next_result}
use Rattle.dev_claims.specs.declared.fault.ClaimFault.{ClaimFault}
use Rattle.dev_claims.specs.declared.fault.ClaimFault.TheVariants as claims
use Rattle.reference_machine.specs.declared.unit.End.TheVariants.{Sealed, Kept, Lost}
use Rattle.stored_vars.specs.declared.claim.Claim.{Claim}
use Rattle.var_log.specs.Banks.{reclaimed_store, store_of}
use Rattle.var_log.specs.Changes.{Variables, after, no_variables}
use Rattle.var_log.specs.Logs.{KeepsVariables, LogValue, free_of}
use Rattle.var_log.specs.declared.change.Change.{Change}
use Rattle.var_log.specs.declared.fault.LogFault.TheVariants.{Flash, NoBank, Full, Stale}
use Rattle.var_log.specs.declared.fault.LogFault.TheVariants as log
use Rattle.var_store.proofs.WriteLemmas.{room_keeps}
use Rattle.var_store.specs.Answers.{AnswersRoom, PreparesAs, RoomLeft, StaysUnlessFlash, refusal_of}
use Rattle.var_store.specs.Answers.{with_room_for}
use Rattle.var_store.specs.Places.{HavePlaces, KeepsPlaces}
use Rattle.var_store.specs.Stores.{HeldStore, OnlyMakesPlaces, PreparedValue, Stands, prepared_of}
use Rattle.var_store.specs.Stores.{variables_of}
use Rattle.var_store.specs.declared.fault.StoreFault.{StoreFault}
use Rattle.var_store.specs.declared.fault.StoreFault.TheVariants.{Log, BadName, TooBig, Memory}
use Rattle.std.specs.Prelude.{Result, option_map}

-- places stay
pub places_then : (a b c : HeldStore) → OnlyMakesPlaces a b → OnlyMakesPlaces b c
    → OnlyMakesPlaces a c
places_then a b c first second = record {
  log = second.log ∙ first.log;
  variables = second.variables ∙ first.variables;
  places = λ guid name has. second.places guid name (first.places guid name has);
}

pub have_kept : (changes old new : List Change) → HavePlaces changes old → KeepsPlaces old new
    → HavePlaces changes new
have_kept changes old new have keeps = λ k d low. keeps _ _ (have k d low)

-- a store that takes a batch which is not too big refuses it for want of memory alone
pub fault_within : (T : Type 0) (changes : List Change) (fault : StoreFault)
    → refusal_of changes ≡ None → PreparesAs changes (Err fault)
    → PreparesWithin {T = T} changes (Err (claim_fault_of fault))
fault_within T changes (Log fault) none h = absurd h
fault_within T changes BadName none h =
    let no : None ≡ Some BadName = sym none ∙ h in absurd cc
fault_within T changes TooBig none h =
    let no : None ≡ Some TooBig = sym none ∙ h in absurd cc
fault_within T changes Memory none h = tt

-- an attempt of these parts is that of a claim
pub attempt_made : (board : BoardValue) (variables : Variables) (now : EfiTime) (c copy : Claim)
    (number seq last : ℕ) (p q r s : PreparedValue) → copy ≡ c
    → number ≡ next_result board variables → seq ≡ last
    → p ≡ prepared_of (claim_changes board variables c)
    → q ≡ prepared_of (claim_settled board variables now c Sealed)
    → r ≡ prepared_of (claim_settled board variables now c Kept)
    → s ≡ prepared_of (claim_settled board variables now c Lost)
    → attempt copy number seq (Some p) q r s ≡ attempt_at board variables now c last
attempt_made board variables now c copy number seq last p q r s same numbered at claiming sealed
    kept lost = λ i. record {
      claim = same i;
      number = numbered i;
      seq = at i;
      claiming = Some (claiming i);
      sealed = sealed i;
      kept = kept i;
      lost = lost i;
    }

-- the bytes of these parts are those that an attempt needs
pub size_made : (board : BoardValue) (variables : Variables) (now : EfiTime) (c : Claim)
    (p q r s : PreparedValue) → p ≡ prepared_of (claim_changes board variables c)
    → q ≡ prepared_of (claim_settled board variables now c Sealed)
    → r ≡ prepared_of (claim_settled board variables now c Kept)
    → s ≡ prepared_of (claim_settled board variables now c Lost)
    → p.size + max (max q.size r.size) s.size ≡ attempt_size board variables now c
size_made board variables now c p q r s claiming sealed kept lost = λ i.
    (claiming i).size + max (max (sealed i).size (kept i).size) (lost i).size

-- a store stands where the contents are the same
pub stands_past : (s : HeldStore) (a b : BenchValue) → b.contents ≡ a.contents → Stands s a
    → Stands s b
stands_past s a b same stands =
    subst (λ (k : Contents). Stands s (record b { contents = k })) (sym same) (record {
      log = record {
        lies = record {
          size = stands.log.lies.size;
          told = λ told. record {
            first = (stands.log.lies.told told).first;
            second = (stands.log.lies.told told).second;
            is = (stands.log.lies.told told).is;
          };
        };
        format = stands.log.format;
      };
      store = stands.store;
    })

-- each image keeps the variables, where the contents stayed first
pub keeps_past : (old mid new : BenchValue) → mid.contents ≡ old.contents
    → KeepsVariables mid new → KeepsVariables old new
keeps_past old mid new same h =
    subst (λ (s : Contents). (image : ℕ → List ℕ) → AreImages new.contents image
    → (store_of image ≡ store_of s.bytes)
    ⊎ (store_of image ≡ option_map reclaimed_store (store_of s.bytes))) same h

-- ---- room

-- a store in which room was made keeps what it is
pub record IsRoomed (bytes : ℕ) (old new : HeldStore) : Type 0 where
  pub keeps : KeepsStore old new
  pub stale : new.log.stale ≡ old.log.stale

pub roomed : (bytes : ℕ) (old mid new : HeldStore) → OnlyMakesPlaces old mid
    → new ≡ with_room_for bytes mid → IsRoomed bytes old new
roomed bytes old mid new only room =
    let kept = room_keeps bytes mid (nat_le bytes (free_of mid.log)) refl in
    record {
      keeps = record {
        seq = ap (λ (s : HeldStore). s.log.seq) room ∙ kept.0 ∙ ap (λ (l : LogValue). l.seq) only.log;
        pending = ap (λ (s : HeldStore). s.log.pending) room ∙ kept.1
            ∙ ap (λ (l : LogValue). l.pending) only.log;
        variables = ap variables_of room ∙ ap (after no_variables) kept.3 ∙ only.variables;
      };
      stale = ap (λ (s : HeldStore). s.log.stale) room ∙ kept.2
          ∙ ap (λ (l : LogValue). l.stale) only.log;
    }

-- an attempt may be claimed where there is room for it
pub may_claim : (board : BoardValue) (variables : Variables) (now : EfiTime) (c : Claim)
    (s : HeldStore) (a : AttemptValue) → a ≡ attempt_at board variables now c s.log.seq
    → HavePlaces (claim_changes board variables c) s.places → HaveEndPlaces a s.places
    → attempt_size board variables now c ≤ free_of s.log → s.log.seq < 2 ^ 64 - 2
    → MayClaim s a
may_claim board variables now c s a is places ends fits next = record {
  batch = prepared_of (claim_changes board variables c);
  is = ap (λ (x : AttemptValue). x.claiming) is;
  places = places;
  ends = ends;
  fits = subst (λ (x : AttemptValue). (prepared_of (claim_changes board variables c)).size
      + largest_of x ≤ free_of s.log) (sym is) fits;
  at_number = sym (ap (λ (x : AttemptValue). x.seq) is);
  next = subst (λ (n : ℕ). n < 2 ^ 64 - 2) (sym (ap (λ (x : AttemptValue). x.seq) is)) next;
}

-- what a refused call for room leaves
pub room_refused : (T : Type 0) (bytes : ℕ) (old mid new : HeldStore) (fault : StoreFault)
    → OnlyMakesPlaces old mid → RoomLeft {T = Unit {0}} bytes mid new (Err fault)
    → PreparingLeaves {T = T} old new (Err (claim_fault_of fault))
room_refused T bytes old mid new (Log Flash) only left = (
  record {
    seq = ap (λ (s : HeldStore). s.log.seq) left ∙ ap (λ (l : LogValue). l.seq) only.log;
    pending = ap (λ (s : HeldStore). s.log.pending) left ∙ ap (λ (l : LogValue). l.pending) only.log;
    variables = ap variables_of left ∙ only.variables;
  },
  ap (λ (s : HeldStore). s.log.stale) left,
)
room_refused T bytes old mid new (Log NoBank) only left = absurd left
room_refused T bytes old mid new (Log Full) only left =
    subst (OnlyMakesPlaces old) (sym left) only
room_refused T bytes old mid new (Log Stale) only left =
    subst (OnlyMakesPlaces old) (sym left) only
room_refused T bytes old mid new (Log log.Memory) only left = absurd left
room_refused T bytes old mid new BadName only left = absurd left
room_refused T bytes old mid new TooBig only left = absurd left
room_refused T bytes old mid new Memory only left =
    subst (OnlyMakesPlaces old) (sym left) only

-- when a call for room is refused
pub room_answers : (T : Type 0) (board : BoardValue) (now : EfiTime) (c : Claim)
    (old mid : HeldStore) (fault : StoreFault) → OnlyMakesPlaces old mid
    → IsUnspent (variables_of old) c old
    → AnswersRoom {T = Unit {0}} (attempt_size board (variables_of old) now c) mid (Err fault)
    → AnswersPreparing {T = T} board now c old (Err (claim_fault_of fault))
room_answers T board now c old mid (Log Flash) only unspent h = (
  unspent,
  sym (ap (λ (l : LogValue). l.stale) only.log) ∙ h.0,
  record { placed = mid; only = only; is = h.1 },
)
room_answers T board now c old mid (Log NoBank) only unspent h = absurd h
room_answers T board now c old mid (Log Full) only unspent h = (
  unspent.unspent,
  inr (
    sym (ap (λ (l : LogValue). l.stale) only.log) ∙ h.0,
    record { placed = mid; only = only; is = h.1 },
  ),
)
room_answers T board now c old mid (Log Stale) only unspent h =
    (unspent, sym (ap (λ (l : LogValue). l.stale) only.log) ∙ h)
room_answers T board now c old mid (Log log.Memory) only unspent h = absurd h
room_answers T board now c old mid BadName only unspent h = absurd h
room_answers T board now c old mid TooBig only unspent h = absurd h
room_answers T board now c old mid Memory only unspent h = unspent

-- what stays of the bench where room was refused
pub room_stays : (T : Type 0) (old mid new : BenchValue) (fault : StoreFault)
    → mid ≡ with_spare old mid → StaysUnlessFlash {T = Unit {0}} mid new (Err fault)
    → StaysUnlessRoomed {T = T} old new (Err (claim_fault_of fault))
room_stays T old mid new (Log Flash) ready stays = tt
room_stays T old mid new (Log NoBank) ready stays =
    subst (λ (b : BenchValue). b ≡ with_spare old b) (sym stays) ready
room_stays T old mid new (Log Full) ready stays =
    subst (λ (b : BenchValue). b ≡ with_spare old b) (sym stays) ready
room_stays T old mid new (Log Stale) ready stays =
    subst (λ (b : BenchValue). b ≡ with_spare old b) (sym stays) ready
room_stays T old mid new (Log log.Memory) ready stays =
    subst (λ (b : BenchValue). b ≡ with_spare old b) (sym stays) ready
room_stays T old mid new BadName ready stays =
    subst (λ (b : BenchValue). b ≡ with_spare old b) (sym stays) ready
room_stays T old mid new TooBig ready stays =
    subst (λ (b : BenchValue). b ≡ with_spare old b) (sym stays) ready
room_stays T old mid new Memory ready stays =
    subst (λ (b : BenchValue). b ≡ with_spare old b) (sym stays) ready

-- a number below one more that is not this one is below it
pub one_less : (n m : ℕ) → n < m + 1 → (n ≡ m → ⊥) → n < m
one_less n m low other = elim (cases_lt n m) [
  | inl below ↦ below
  | inr above ↦ let same : n ≡ m = omega (arith, low, above) in absurd (other same)
]

-- ---- causes

-- an answer other than a fault of the flash has no cause
pub no_cause : {T : Type 0} (before now : ℕ) (r : Result T ClaimFault) → before ≤ now
    → (r ≡ Err (claims.Store (Log Flash)) → ⊥)
    → HasCauseOf (claims.Store (Log Flash)) before now r
no_cause before now r later other = record { later = later; failed = λ e. absurd (other e) }

-- a fault of the store has its cause as one of a claim
pub fault_cause : (T : Type 0) (first before now : ℕ) (fault : StoreFault) → before ≡ first
    → HasCauseOf {T = Unit {0}} (Log Flash) before now (Err fault)
    → HasCauseOf {T = T} (claims.Store (Log Flash)) first now (Err (claim_fault_of fault))
fault_cause T first before now (Log Flash) same h = record {
  later = subst (λ (n : ℕ). n ≤ now) same h.later;
  failed = λ e. subst (λ (n : ℕ). Rose n now) same (h.failed refl);
}
fault_cause T first before now (Log NoBank) same h =
    no_cause first now (Err _) (subst (λ (n : ℕ). n ≤ now) same h.later) (λ e. absurd cc)
fault_cause T first before now (Log Full) same h =
    no_cause first now (Err _) (subst (λ (n : ℕ). n ≤ now) same h.later) (λ e. absurd cc)
fault_cause T first before now (Log Stale) same h =
    no_cause first now (Err _) (subst (λ (n : ℕ). n ≤ now) same h.later) (λ e. absurd cc)
fault_cause T first before now (Log log.Memory) same h =
    no_cause first now (Err _) (subst (λ (n : ℕ). n ≤ now) same h.later) (λ e. absurd cc)
fault_cause T first before now BadName same h =
    no_cause first now (Err _) (subst (λ (n : ℕ). n ≤ now) same h.later) (λ e. absurd cc)
fault_cause T first before now TooBig same h =
    no_cause first now (Err _) (subst (λ (n : ℕ). n ≤ now) same h.later) (λ e. absurd cc)
fault_cause T first before now Memory same h =
    no_cause first now (Err _) (subst (λ (n : ℕ). n ≤ now) same h.later) (λ e. absurd cc)
