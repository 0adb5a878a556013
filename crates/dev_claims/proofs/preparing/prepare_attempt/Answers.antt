use Rattle.std.proofs.Common.{rules, ◌≡◌, ◌<◌, ◌-◌, ◌^◌, false, ℕ, ap, ◌∙◌, sym, subst, arith, Err, refl}
use Rattle.std.proofs.Common.{◌≤◌, List}
use Rattle.std.specs.Prelude.{Result}
use Rattle.bench_model.specs.Bench.{BenchValue}
use Rattle.cu_base.specs.Causes.{HasCauseOf}
use Rattle.dev_claims.specs.Attempts.{AttemptValue, HaveEndPlaces, attempt_at}
use Rattle.dev_claims.specs.Preparing.{AnswersPreparing, PreparingLeaves, StaysUnlessRoomed}
use Rattle.dev_claims.specs.Preparing.{attempt_size, is_spent, with_spare}
use Rattle.dev_claims.specs.Units.{claim_changes}
use Rattle.dev_claims.specs.declared.attempt.Attempt.{Attempt}
use Rattle.dev_claims.specs.declared.fault.ClaimFault.{ClaimFault}
use Rattle.dev_claims.specs.declared.fault.ClaimFault.TheVariants as claims
use Rattle.dev_claims.proofs.Readied.{fault_cause, keeps_past, may_claim, no_cause, one_less}
use Rattle.dev_claims.proofs.Readied.{room_answers, room_refused, room_stays, roomed, stands_past}
use Rattle.var_log.proofs.Reclaims.{unmoved}
use Rattle.var_log.specs.Logs.{ChangesBanks, KeepsVariables, LogValue, free_of}
use Rattle.var_log.specs.declared.change.Change.{Change}
use Rattle.var_log.specs.declared.fault.LogFault.TheVariants.{Flash}
use Rattle.var_store.specs.Answers.{AnswersRoom, has_room}
use Rattle.var_store.specs.Places.{HavePlaces}
use Rattle.var_store.specs.declared.fault.StoreFault.TheVariants.{Log}
use Rattle.var_store.proofs.StoreLemmas.{stands_still}
use Rattle.var_store.specs.Stores.{variables_of}
use Rattle.dev_claims.proofs.preparing.prepare_attempt.Goals as goal

pub returns-then-is_spent-clause-images : goal.returns-then-is_spent-clause-images
returns-then-is_spent-clause-images g c = λ fresh.
    unmoved c.args.store.now.log (g.W.BenchState.state c.args.flash.now)
    (c.requires.stands fresh).log.lies

pub returns-then-seq-clause-images : goal.returns-then-seq-clause-images
returns-then-seq-clause-images g c = λ fresh.
    unmoved c.args.store.now.log (g.W.BenchState.state c.args.flash.now)
    (c.requires.stands fresh).log.lies

pub returns-in_err-attempt-clause-images : goal.returns-in_err-attempt-clause-images
returns-in_err-attempt-clause-images g c = λ fresh.
    unmoved c.args.store.now.log (g.W.BenchState.state c.args.flash.now)
    (c.requires.stands fresh).log.lies

pub returns-in_err-make_ready-clause-images : goal.returns-in_err-make_ready-clause-images
returns-in_err-make_ready-clause-images g c = λ fresh.
    let old = g.W.BenchState.state c.args.flash.now in
    subst (λ (b : BenchValue). KeepsVariables old b) (sym c.in_err-make_ready.ensures.err)
    (unmoved c.args.store.now.log old (c.requires.stands fresh).log.lies)

pub room_for-requires-clause-stands : goal.room_for-requires-clause-stands
room_for-requires-clause-stands g c = λ fresh.
    let old = g.W.BenchState.state c.args.flash.now in
    let mid = g.W.BenchState.state c.make_ready.new.flash in
    stands_past c.prepare_batches.new.store old mid
    (ap (λ (b : BenchValue). b.contents) c.make_ready.ensures.frame)
    (stands_still c.args.store.now c.prepare_batches.new.store old c.prepare_batches.ensures.frame
    (c.requires.stands (sym (ap (λ (l : LogValue). l.stale) c.prepare_batches.ensures.frame.log) ∙ fresh)))

pub returns-in-Ok-clause-attempt : goal.returns-in-Ok-clause-attempt
returns-in-Ok-clause-attempt g c =
    c.in_ok-attempt.ensures.value
    ∙ ap (attempt_at c.args.board.now (variables_of c.args.store.now) c.args.now.now
    c.args.claim.now)
    (sym (roomed c.in_ok-attempt.bytes c.args.store.now c.prepare_batches.new.store
    c.room_for.new.self c.prepare_batches.ensures.frame c.in-Ok.ensures.value).keeps.seq)

pub returns-in-Ok-clause-claims : goal.returns-in-Ok-clause-claims
returns-in-Ok-clause-claims g c =
    let variables = variables_of c.args.store.now in
    let kept = (roomed c.in_ok-attempt.bytes c.args.store.now c.prepare_batches.new.store
    c.room_for.new.self c.prepare_batches.ensures.frame c.in-Ok.ensures.value).keeps in
    let seq : c.room_for.new.self.log.seq ≡ c.args.store.now.log.seq = kept.seq in
    let other : (c.args.store.now.log.seq ≡ 2 ^ 64 - 2) → ⊥ = λ e. search (rules, e) in
    let room : attempt_size c.args.board.now variables c.args.now.now c.args.claim.now
    ≤ free_of c.room_for.new.self.log =
    subst (λ (n : ℕ). n ≤ free_of c.room_for.new.self.log) c.in_ok-attempt.ensures.bytes
    c.in-Ok.ensures.free in
    let less : c.room_for.new.self.log.seq < 2 ^ 64 - 1 = c.in-Ok.ensures.next in
    may_claim c.args.board.now variables c.args.now.now c.args.claim.now c.room_for.new.self
    c.in_ok-attempt.attempt
    (c.in_ok-attempt.ensures.value ∙ ap (attempt_at c.args.board.now variables c.args.now.now
    c.args.claim.now) (sym seq))
    (subst (λ (ps : List Change). HavePlaces (claim_changes c.args.board.now variables
    c.args.claim.now) ps) (sym c.room_for.ensures.places) c.in_ok-attempt.ensures.places)
    (subst (λ (ps : List Change). HaveEndPlaces c.in_ok-attempt.attempt ps)
    (sym c.room_for.ensures.places) c.in_ok-attempt.ensures.ends) room
    (one_less c.room_for.new.self.log.seq (2 ^ 64 - 2) less (λ e. other (sym seq ∙ e)))

pub returns-in-Ok-clause-value : goal.returns-in-Ok-clause-value
returns-in-Ok-clause-value g c =
    let r = roomed c.in_ok-attempt.bytes c.args.store.now c.prepare_batches.new.store
    c.room_for.new.self c.prepare_batches.ensures.frame c.in-Ok.ensures.value in (
      r.keeps,
      r.stale ∙ sym (ap (λ (l : LogValue). l.stale) c.prepare_batches.ensures.frame.log)
          ∙ c.in-Ok.ensures.refused.0,
    )

pub returns-in-Ok-clause-images : goal.returns-in-Ok-clause-images
returns-in-Ok-clause-images g c = λ fresh.
    keeps_past (g.W.BenchState.state c.args.flash.now) (g.W.BenchState.state c.make_ready.new.flash)
    (g.W.BenchState.state c.room_for.new.flash)
    (ap (λ (b : BenchValue). b.contents) c.make_ready.ensures.frame)
    (c.room_for.ensures.images (ap (λ (l : LogValue). l.stale) c.prepare_batches.ensures.frame.log ∙ fresh))

pub returns-in-Err-clause-images : goal.returns-in-Err-clause-images
returns-in-Err-clause-images g c = λ fresh.
    keeps_past (g.W.BenchState.state c.args.flash.now) (g.W.BenchState.state c.make_ready.new.flash)
    (g.W.BenchState.state c.room_for.new.flash)
    (ap (λ (b : BenchValue). b.contents) c.make_ready.ensures.frame)
    (c.room_for.ensures.images (ap (λ (l : LogValue). l.stale) c.prepare_batches.ensures.frame.log ∙ fresh))

pub returns-in-Err-clause-value : goal.returns-in-Err-clause-value
returns-in-Err-clause-value g c =
    subst (λ (f : ClaimFault). PreparingLeaves {T = AttemptValue} c.args.store.now
    c.room_for.new.self (Err f)) (sym c.claim_fault_of.ensures.value)
    (room_refused AttemptValue c.in_ok-attempt.bytes c.args.store.now c.prepare_batches.new.store
    c.room_for.new.self c.in-Err.fault c.prepare_batches.ensures.frame c.in-Err.ensures.value)

pub returns-in-Err-clause-err : goal.returns-in-Err-clause-err
returns-in-Err-clause-err g c =
    let old = g.W.BenchState.state c.args.flash.now in
    let mid = g.W.BenchState.state c.make_ready.new.flash in
    let new = g.W.BenchState.state c.room_for.new.flash in
    subst (λ (f : ClaimFault). StaysUnlessRoomed {T = AttemptValue} old new (Err f))
    (sym c.claim_fault_of.ensures.value)
    (room_stays AttemptValue old mid new c.in-Err.fault c.make_ready.ensures.frame c.in-Err.ensures.err)

pub returns-in-Ok-clause-refused : goal.returns-in-Ok-clause-refused
returns-in-Ok-clause-refused g c =
    let unspent : is_spent (variables_of c.args.store.now) c.args.claim.now ≡ false = search rules in
    let numbers : (c.args.store.now.log.seq ≡ 2 ^ 64 - 2) → ⊥ = λ e. search (rules, e) in (
      record { unspent = unspent; numbers = numbers },
      sym (ap (λ (l : LogValue). l.stale) c.prepare_batches.ensures.frame.log)
          ∙ c.in-Ok.ensures.refused.0,
      record {
        placed = c.prepare_batches.new.store;
        only = c.prepare_batches.ensures.frame;
        is = sym (ap (λ (n : ℕ). has_room n c.prepare_batches.new.store)
            c.in_ok-attempt.ensures.bytes) ∙ c.in-Ok.ensures.refused.1;
      },
    )

pub returns-in-Err-clause-refused : goal.returns-in-Err-clause-refused
returns-in-Err-clause-refused g c =
    let unspent : is_spent (variables_of c.args.store.now) c.args.claim.now ≡ false = search rules in
    let numbers : (c.args.store.now.log.seq ≡ 2 ^ 64 - 2) → ⊥ = λ e. search (rules, e) in
    subst (λ (f : ClaimFault). AnswersPreparing {T = AttemptValue} c.args.board.now c.args.now.now
    c.args.claim.now c.args.store.now (Err f)) (sym c.claim_fault_of.ensures.value)
    (room_answers AttemptValue c.args.board.now c.args.now.now c.args.claim.now c.args.store.now
    c.prepare_batches.new.store c.in-Err.fault c.prepare_batches.ensures.frame
    (record { unspent = unspent; numbers = numbers })
    (subst (λ (n : ℕ). AnswersRoom {T = Unit {0}} n c.prepare_batches.new.store
    (Err c.in-Err.fault)) c.in_ok-attempt.ensures.bytes c.in-Err.ensures.refused))

pub returns-in_err-make_ready-clause-refused : goal.returns-in_err-make_ready-clause-refused
returns-in_err-make_ready-clause-refused g c =
    let unspent : is_spent (variables_of c.args.store.now) c.args.claim.now ≡ false = search rules in
    let numbers : (c.args.store.now.log.seq ≡ 2 ^ 64 - 2) → ⊥ = λ e. search (rules, e) in
    let is : c.from_residual-in_err-make_ready.result ≡ Err c.in_err-make_ready.field-0.0 =
    search (rules, c.from_residual-in_err-make_ready.ensures) in
    subst (λ (r : Result AttemptValue ClaimFault). AnswersPreparing c.args.board.now
    c.args.now.now c.args.claim.now c.args.store.now r)
    (sym (is ∙ ap Err c.in_err-make_ready.ensures.refused))
    (record { unspent = unspent; numbers = numbers })

pub returns-in_err-make_ready-clause-frame : goal.returns-in_err-make_ready-clause-frame
returns-in_err-make_ready-clause-frame g c =
    let old = g.W.BenchState.state c.args.flash.now in
    subst (λ (b : BenchValue). ChangesBanks (with_spare old b) b) (sym c.in_err-make_ready.ensures.err)
    (record {
      told = refl;
      regions = refl;
      long = λ k low. refl;
      bytes = λ k high. refl;
      dirty = λ k high. refl;
      rest = refl;
      spare = refl;
      orders = refl;
    })

pub returns-in_err-make_ready-clause-cause : goal.returns-in_err-make_ready-clause-cause
returns-in_err-make_ready-clause-cause g c =
    let is : c.from_residual-in_err-make_ready.result ≡ Err c.in_err-make_ready.field-0.0 =
    search (rules, c.from_residual-in_err-make_ready.ensures) in
    let same : (g.W.BenchState.state c.make_ready.new.flash).counts.flash_faults
    ≡ (g.W.BenchState.state c.args.flash.now).counts.flash_faults =
    ap (λ (b : BenchValue). b.counts.flash_faults) c.make_ready.ensures.frame in
    subst (λ (r : Result Attempt ClaimFault). HasCauseOf (claims.Store (Log Flash))
    (g.W.BenchState.state c.args.flash.now).counts.flash_faults
    (g.W.BenchState.state c.make_ready.new.flash).counts.flash_faults r)
    (sym (is ∙ ap Err c.in_err-make_ready.ensures.refused))
    (no_cause _ _ (Err claims.Memory) (omega (arith, same)) (λ e. absurd cc))

pub returns-in-Ok-clause-spare : goal.returns-in-Ok-clause-spare
returns-in-Ok-clause-spare g c = λ d.
    subst (λ (f : ℕ → ℕ). (g.W.BenchState.state c.args.flash.now).spare d ≤ f d)
    (sym c.room_for.ensures.frame.spare) (c.make_ready.ensures.spare d)

pub returns-in-Err-clause-spare : goal.returns-in-Err-clause-spare
returns-in-Err-clause-spare g c = λ d.
    subst (λ (f : ℕ → ℕ). (g.W.BenchState.state c.args.flash.now).spare d ≤ f d)
    (sym c.room_for.ensures.frame.spare) (c.make_ready.ensures.spare d)

pub returns-in-Ok-clause-cause : goal.returns-in-Ok-clause-cause
returns-in-Ok-clause-cause g c =
    let same : (g.W.BenchState.state c.make_ready.new.flash).counts.flash_faults
    ≡ (g.W.BenchState.state c.args.flash.now).counts.flash_faults =
    ap (λ (b : BenchValue). b.counts.flash_faults) c.make_ready.ensures.frame in
    let later : (g.W.BenchState.state c.make_ready.new.flash).counts.flash_faults
    ≤ (g.W.BenchState.state c.room_for.new.flash).counts.flash_faults =
    c.room_for.ensures.cause.later in
    no_cause _ _ _ (omega (arith, same, later)) (λ e. absurd cc)

pub returns-in-Err-clause-cause : goal.returns-in-Err-clause-cause
returns-in-Err-clause-cause g c =
    let same : (g.W.BenchState.state c.make_ready.new.flash).counts.flash_faults
    ≡ (g.W.BenchState.state c.args.flash.now).counts.flash_faults =
    ap (λ (b : BenchValue). b.counts.flash_faults) c.make_ready.ensures.frame in
    subst (λ (f : ClaimFault). HasCauseOf {T = Attempt} (claims.Store (Log Flash))
    (g.W.BenchState.state c.args.flash.now).counts.flash_faults
    (g.W.BenchState.state c.room_for.new.flash).counts.flash_faults (Err f))
    (sym c.claim_fault_of.ensures.value)
    (fault_cause Attempt _ _ _ c.in-Err.fault same c.in-Err.ensures.cause)
