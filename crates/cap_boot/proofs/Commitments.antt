-- What a call on claims leaves that commits one batch, in the words of a boot.
use Rattle.std.proofs.Common.{◌≡◌, inl, inr, ◌<◌, ◌∙◌, List, [], ◌∷◌, ◌++◌, length}
use Rattle.std.proofs.Common.{ap, arith, Ok, Err, None}
use Rattle.bench_model.specs.Bench.{BenchValue}
use Rattle.bench_model.specs.Boards.{BoardValue}
use Rattle.dev_claims.specs.Committing.{LeavesStore, StaysUnlessStruck}
use Rattle.dev_claims.specs.Units.{close_changes, device_changes, greatest_changes, next_result}
use Rattle.dev_claims.specs.Units.{result_changes}
use Rattle.dev_claims.specs.declared.fault.ClaimFault.{ClaimFault}
use Rattle.dev_claims.specs.declared.fault.ClaimFault.TheVariants as claims
use Rattle.reference_machine.specs.Results.{result_at}
use Rattle.reference_machine.specs.Spent.{Element, end_of}
use Rattle.stored_vars.specs.Holds.{bytes_in}
use Rattle.stored_vars.specs.declared.variable.StoredVar.TheVariants.{CapsuleMax}
use Rattle.var_log.specs.Changes.{Variables}
use Rattle.var_log.specs.declared.change.Change.{Change}
use Rattle.var_log.specs.declared.fault.LogFault.TheVariants.{Flash, NoBank, Full, Stale}
use Rattle.var_log.specs.declared.fault.LogFault.TheVariants as log
use Rattle.var_store.specs.Stores.{HeldStore}
use Rattle.var_store.specs.Writes.{IsWritten, MayHaveWritten, WriteLeaves}
use Rattle.var_store.specs.declared.fault.StoreFault.{StoreFault}
use Rattle.var_store.specs.declared.fault.StoreFault.TheVariants.{Log, BadName, TooBig, Memory}
use Rattle.cap_boot.specs.Commits.{IsStored, LeavesBatch, fault_of_claim}

-- some changes behind others are some changes
pub not_empty : (xs ys : List Change) → 0 < length ys → 0 < length (xs ++ ys)
not_empty [] ys some = some
not_empty (x ∷ xs) ys some = omega (arith, not_empty xs ys some)

-- a batch that is not empty was written
pub committed : {T : Type 0} (changes : List Change) (s t : HeldStore) (u : T)
    → 0 < length changes → LeavesStore changes s t (Ok u) → IsWritten changes s t
committed [] s t u some left = absurd (omega (arith, some))
committed (c ∷ rest) s t u some left = left

pub stored_of : (changes : List Change) (s t : HeldStore) → IsWritten changes s t
    → IsStored changes s t
stored_of changes s t w = record { variables = w.variables; number = w.seq }

store_left : (T : Type 0) (changes : List Change) (s t : HeldStore) (fault : StoreFault)
    → LeavesStore {T = T} changes s t (Err (claims.Store fault))
    → WriteLeaves {T = T} changes s t (Err fault)
store_left T [] s t fault left = left
store_left T (c ∷ rest) s t fault left = left

-- a batch was not written
pub not_committed : (T : Type 0) (changes : List Change) (s t : HeldStore) (a b : BenchValue)
    (fault : ClaimFault) → s.log.pending ≡ None → LeavesStore {T = T} changes s t (Err fault)
    → StaysUnlessStruck {T = T} a b (Err fault) → MayHaveWritten changes t.log.pending a b
    → LeavesBatch changes s t a b (fault_of_claim fault)
not_committed T changes s t a b (claims.Store fault) none left stays images =
    by_store fault (store_left T changes s t fault left) stays
  where
    by_store : (f : StoreFault) → WriteLeaves {T = T} changes s t (Err f)
        → StaysUnlessStruck {T = T} a b (Err (claims.Store f))
        → LeavesBatch changes s t a b (fault_of_claim (claims.Store f))
    by_store (Log Flash) w same = record {
      pending = elim w.pending [ inl same_one ↦ inl (same_one ∙ none) | inr some ↦ inr some ];
      images = images;
    }
    by_store (Log NoBank) w same = absurd w
    by_store (Log Full) w same = record { bench = ap (λ (w : BenchValue). w.contents) same; log = w.log }
    by_store (Log Stale) w same = record { bench = ap (λ (w : BenchValue). w.contents) same; log = w.log }
    by_store (Log log.Memory) w same = absurd w
    by_store BadName w same = record { bench = ap (λ (w : BenchValue). w.contents) same; log = w.log }
    by_store TooBig w same = record { bench = ap (λ (w : BenchValue). w.contents) same; log = w.log }
    by_store Memory w same = record { bench = ap (λ (w : BenchValue). w.contents) same; log = w.log }
not_committed T [] s t a b claims.Flash none left same images = absurd left
not_committed T (c ∷ rest) s t a b claims.Flash none left same images = absurd left
not_committed T [] s t a b (claims.Spent n) none left same images = absurd left
not_committed T (c ∷ rest) s t a b (claims.Spent n) none left same images = absurd left
not_committed T [] s t a b claims.Memory none left same images =
    record { bench = ap (λ (w : BenchValue). w.contents) same; log = left.log }
not_committed T (c ∷ rest) s t a b claims.Memory none left same images =
    record { bench = ap (λ (w : BenchValue). w.contents) same; log = left.log }

-- a unit is closed by some changes
pub closing_is_some : (board : BoardValue) (variables : Variables) (e : Element)
    → 0 < length (close_changes board variables e)
closing_is_some board variables e =
    not_empty (device_changes board variables e (end_of e)) _
    (not_empty (result_changes (result_at board (next_result board variables) e e.standing)) _
    (not_empty (greatest_changes board (bytes_in variables CapsuleMax)) _ (omega arith)))
