-- The first of the variables that keeps no delivery.
use Rattle.std.proofs.Common.{◌≡◌, ℕ, zero, suc, ◌+◌, ◌<◌, ◌≤◌, Bool, true, false, refl, sym, ◌∙◌, ap}
use Rattle.std.proofs.Common.{Some, None, Err, arith, inl, inr}
use Rattle.bench_model.specs.Bench.{BenchValue}
use Rattle.reference_machine.specs.declared.snapshot.StagedPair.{StagedPair}
use Rattle.update_inbox.specs.Answers.{BatchAnswers}
use Rattle.std.specs.Prelude.{Option}
use Rattle.update_inbox.specs.Staging.{IsDelivery, IsTaken, StagingAnswers, batch_of, stage_batch}
use Rattle.update_inbox.specs.declared.fault.InboxFault.{InboxFault}
use Rattle.update_inbox.specs.declared.fault.InboxFault.TheVariants as inbox
use Rattle.update_inbox.specs.declared.staging.Delivery.{Delivery}
use Rattle.var_store.specs.Answers.{refusal_of}
use Rattle.std.specs.Prelude.{find}
use Rattle.std.specs.List.{range_with_len}
use Rattle.std.proofs.lemmas.Bool.{cases_eq}

module _ (test : ℕ → Bool) where
  -- the first of n numbers from a on that passes
  pub first_is : (a n k : ℕ) → a ≤ k → k < a + n → ((j : ℕ) → a ≤ j → j < k → test j ≡ false)
      → test k ≡ true → find test (range_with_len a n) ≡ Some k
  first_is a zero k low high before is = absurd (omega arith)
  first_is a (suc n) k low high before is = elim (cases_eq k a) [
    | inl here ↦ (
        let yes : test a ≡ true = ap test (sym here) ∙ is in
        rw yes (ap Some (sym here))
        )
    | inr later ↦ (
        let no : test a ≡ false = before a (omega arith) (omega (arith, later)) in
        rw no (first_is (a + 1) n k (omega (arith, later)) (omega arith)
        (λ j from below. before j (omega arith) below) is)
        )
  ]

-- the batch of a delivery is within the limits
fits_at : (k : ℕ) → k < 8 → (pair : StagedPair)
    → refusal_of (batch_of (record { number = k; pair = pair })) ≡ None
fits_at zero low pair = refl
fits_at (suc zero) low pair = refl
fits_at (suc (suc zero)) low pair = refl
fits_at (suc (suc (suc zero))) low pair = refl
fits_at (suc (suc (suc (suc zero)))) low pair = refl
fits_at (suc (suc (suc (suc (suc zero))))) low pair = refl
fits_at (suc (suc (suc (suc (suc (suc zero)))))) low pair = refl
fits_at (suc (suc (suc (suc (suc (suc (suc zero))))))) low pair = refl
fits_at (suc (suc (suc (suc (suc (suc (suc (suc k)))))))) low pair = absurd (omega arith)

pub stage_fits : (d : Delivery) → d.number < 8 → refusal_of (batch_of d) ≡ None
stage_fits d low = fits_at d.number low d.pair

-- why a delivery was not staged whose batch was not written
pub staging_refused : (address : ℕ) (old : BenchValue) (fault : InboxFault)
    → BatchAnswers {T = Unit {0}} (stage_batch address) old (Err fault)
    → StagingAnswers address old (Err fault)
staging_refused address old inbox.Invalid answer = absurd answer
staging_refused address old inbox.Unsupported answer = absurd answer
staging_refused address old inbox.Resources answer = absurd answer
staging_refused address old inbox.Flash answer = tt
staging_refused address old inbox.Volume answer = absurd answer
staging_refused address old inbox.NoBank answer = answer
staging_refused address old inbox.Memory answer = tt

-- a batch in doubt is that of a delivery that is taken
pub taken_where : (address : ℕ) (old : BenchValue) (pending : Option ℕ) → IsDelivery address old
    → IsTaken address old pending
taken_where address old None is = tt
taken_where address old (Some number) is = is
