use Rattle.std.proofs.Common.{rules, ◌≡◌, ℕ, true, false, refl, sym, subst, arith, Err}
use Rattle.std.specs.Prelude.{Option}
use Rattle.dev_claims.specs.Committing.{AnswersCommit, are_small}
use Rattle.dev_claims.specs.declared.fault.ClaimFault.{ClaimFault}
use Rattle.dev_claims.proofs.Committed.{big_answers, fault_answers, has_committed}
use Rattle.dev_claims.proofs.Sized.{big_refused, none_refused, record_fits}
use Rattle.var_log.proofs.Reclaims.{unmoved}
use Rattle.var_store.specs.Writes.{MayHaveWritten}
use Rattle.dev_claims.proofs.committing.commit.Goals as goal

pub returns-then-not-are_small-clause-images : goal.returns-then-not-are_small-clause-images
returns-then-not-are_small-clause-images g c = λ fresh none.
    let bench = g.W.BenchState.state c.args.flash.now in
    subst (λ (pending : Option ℕ). MayHaveWritten c.args.batch.now.items pending bench bench)
    (sym none) (unmoved c.args.store.now.log bench (c.requires.stands fresh).log.lies)

pub returns-then-not-are_small-clause-refused : goal.returns-then-not-are_small-clause-refused
returns-then-not-are_small-clause-refused g c =
    let big : are_small c.args.batch.now.items ≡ false = search rules in
    big_answers (Unit {0}) c.args.batch.now.items c.args.store.now
    (λ empty. grind (arith, c.is_empty.ensures, c.if-is_empty.false, empty))
    (big_refused 5 c.args.batch.now.items c.requires.places big)

pub write-written-requires-clause-size : goal.write-written-requires-clause-size
write-written-requires-clause-size g c =
    let small : are_small c.args.batch.now.items ≡ true = search rules in
    record_fits 5 c.args.batch.now.items c.requires.places small c.requires.few

pub returns-in-Ok-clause-durable : goal.returns-in-Ok-clause-durable
returns-in-Ok-clause-durable g c =
    has_committed c.args.batch.now.items c.args.batch.now.items
    (g.W.BenchState.state c.args.flash.now) (g.W.BenchState.state c.write-written.new.flash) refl
    (λ empty. grind (arith, c.is_empty.ensures, c.if-is_empty.false, empty)) c.in-Ok.ensures.durable

pub returns-in-Err-clause-refused : goal.returns-in-Err-clause-refused
returns-in-Err-clause-refused g c =
    let small : are_small c.args.batch.now.items ≡ true = search rules in
    subst (λ (f : ClaimFault). AnswersCommit {T = Unit {0}} c.args.batch.now.items
    c.args.store.now (Err f)) (sym c.claim_fault_of.ensures.value)
    (fault_answers (Unit {0}) c.args.batch.now.items c.args.store.now c.in-Err.fault
    (λ empty. grind (arith, c.is_empty.ensures, c.if-is_empty.false, empty))
    (none_refused 5 c.args.batch.now.items c.requires.places small) c.in-Err.ensures.refused)
