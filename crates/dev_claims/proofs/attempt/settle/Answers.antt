use Rattle.std.proofs.Common.{rules, ◌≡◌, subst}
use Rattle.dev_claims.specs.Attempts.{settling_of}
use Rattle.var_log.specs.Logs.{HasBatch, HasBatchOrNot}
use Rattle.var_store.specs.Answers.{IsCommitted}
use Rattle.var_store.specs.Stores.{PreparedValue}
use Rattle.dev_claims.proofs.attempt.settle.Goals as goal
use Rattle.dev_claims.proofs.attempt.settle.Goals.{in-Sealed, in-Kept, in-Lost}

pub returns-in_err-commit_prepared-clause-images : goal.returns-in_err-commit_prepared-clause-images
returns-in_err-commit_prepared-clause-images g c = λ fresh.
    let same : c.match-end.prepared ≡ settling_of c.args.attempt c.args.end =
    elim c.match-end.branch [
      | in-Sealed w ↦ search rules
      | in-Kept w ↦ search rules
      | in-Lost w ↦ search rules
    ] in
    subst (λ (p : PreparedValue). HasBatchOrNot p.changes
    (g.W.BenchState.state c.args.flash.now) (g.W.BenchState.state c.commit_prepared.new.flash)) same
    (c.commit_prepared.ensures.images fresh)

pub returns-clause-value : goal.returns-clause-value
returns-clause-value g c =
    let same : c.match-end.prepared ≡ settling_of c.args.attempt c.args.end =
    elim c.match-end.branch [
      | in-Sealed w ↦ search rules
      | in-Kept w ↦ search rules
      | in-Lost w ↦ search rules
    ] in
    subst (λ (p : PreparedValue). IsCommitted p.size p.changes c.args.store.now
    c.commit_prepared.new.store) same c.in_ok-commit_prepared.ensures.value

pub returns-clause-durable : goal.returns-clause-durable
returns-clause-durable g c =
    let same : c.match-end.prepared ≡ settling_of c.args.attempt c.args.end =
    elim c.match-end.branch [
      | in-Sealed w ↦ search rules
      | in-Kept w ↦ search rules
      | in-Lost w ↦ search rules
    ] in
    subst (λ (p : PreparedValue). HasBatch p.changes (g.W.BenchState.state c.args.flash.now)
    (g.W.BenchState.state c.commit_prepared.new.flash)) same c.in_ok-commit_prepared.ensures.durable

pub returns-clause-images : goal.returns-clause-images
returns-clause-images g c = λ fresh.
    let same : c.match-end.prepared ≡ settling_of c.args.attempt c.args.end =
    elim c.match-end.branch [
      | in-Sealed w ↦ search rules
      | in-Kept w ↦ search rules
      | in-Lost w ↦ search rules
    ] in
    subst (λ (p : PreparedValue). HasBatchOrNot p.changes
    (g.W.BenchState.state c.args.flash.now) (g.W.BenchState.state c.commit_prepared.new.flash)) same
    (c.commit_prepared.ensures.images fresh)
