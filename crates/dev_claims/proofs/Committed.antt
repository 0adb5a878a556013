-- A batch that was committed stands, and what is answered of it.
use Rattle.std.proofs.Common.{◌≡◌, List, [], ◌∷◌, refl, sym, ◌∙◌, subst, Some, None, Err}
use Rattle.bench_model.specs.Bench.{BenchValue}
use Rattle.dev_claims.specs.Committing.{AnswersCommit, HasCommitted, claim_fault_of}
use Rattle.dev_claims.specs.declared.fault.ClaimFault.TheVariants as claims
use Rattle.var_log.specs.declared.change.Change.{Change}
use Rattle.var_store.specs.Answers.{refusal_of}
use Rattle.var_store.specs.Stores.{HeldStore}
use Rattle.var_store.specs.Writes.{AnswersWrite, HasWritten}
use Rattle.var_store.specs.declared.fault.StoreFault.{StoreFault}
use Rattle.var_store.specs.declared.fault.StoreFault.TheVariants as stores
use Rattle.var_store.specs.declared.fault.StoreFault.TheVariants.{Log}

written : (changes : List Change) (old new : BenchValue) → (changes ≡ [] → ⊥)
    → HasWritten changes old new → HasCommitted changes old new
written [] old new some has = absurd (some refl)
written (c ∷ rest) old new some has = has

-- what was written is that which was to drop
pub has_committed : (batch changes : List Change) (old new : BenchValue) → batch ≡ changes
    → (batch ≡ [] → ⊥) → HasWritten batch old new → HasCommitted changes old new
has_committed batch changes old new same some has =
    subst (λ (cs : List Change). HasCommitted cs old new) same (written batch old new some has)

-- a batch that is too big is refused so
pub big_answers : (T : Type 0) (changes : List Change) (s : HeldStore) → (changes ≡ [] → ⊥)
    → refusal_of changes ≡ Some stores.TooBig
    → AnswersCommit {T = T} changes s (Err (claims.Store stores.TooBig))
big_answers T [] s some big = absurd (some refl)
big_answers T (c ∷ rest) s some big = big

-- a fault of the store is answered as it comes
pub fault_answers : (T : Type 0) (changes : List Change) (s : HeldStore) (fault : StoreFault)
    → (changes ≡ [] → ⊥) → refusal_of changes ≡ None → AnswersWrite {T = T} changes s (Err fault)
    → AnswersCommit {T = T} changes s (Err (claim_fault_of fault))
fault_answers T [] s fault some none h = absurd (some refl)
fault_answers T (c ∷ rest) s (Log fault) some none h = h
fault_answers T (c ∷ rest) s stores.BadName some none h =
    let no : None ≡ Some stores.BadName = sym none ∙ h in absurd cc
fault_answers T (c ∷ rest) s stores.TooBig some none h = h
fault_answers T (c ∷ rest) s stores.Memory some none h = tt
