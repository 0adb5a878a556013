use Rattle.std.proofs.Common.{ℕ, List, refl, sym, subst, Ok}
use Rattle.std.specs.Prelude.{Option}
use Rattle.dev_claims.specs.Committing.{HasCommitted, LeavesStore}
use Rattle.dev_claims.specs.Ended.{claim_settled}
use Rattle.dev_claims.proofs.Settled.{leaves_told, settled_made}
use Rattle.var_log.proofs.Reclaims.{unmoved}
use Rattle.var_log.specs.declared.change.Change.{Change}
use Rattle.var_store.proofs.WriteLemmas.{on_err}
use Rattle.var_store.specs.Stores.{variables_of}
use Rattle.var_store.specs.Writes.{MayHaveWritten}
use Rattle.dev_claims.proofs.settling.settle_claim.Goals as goal

pub returns-in_err-batch-clause-images : goal.returns-in_err-batch-clause-images
returns-in_err-batch-clause-images g c = λ fresh none.
    let bench = g.W.BenchState.state c.args.flash.now in
    on_err c.from_residual.result (subst (λ (pending : Option ℕ).
    MayHaveWritten (claim_settled c.args.board.now (variables_of c.args.store.now)
    c.args.now.now c.args.claim c.args.end) pending bench
    bench) (sym none) (unmoved c.args.store.now.log bench (c.requires.stands fresh).log.lies))

pub returns-in_err-commit-clause-images : goal.returns-in_err-commit-clause-images
returns-in_err-commit-clause-images g c = λ fresh none.
    on_err c.from_residual-in_err-commit.result
    (subst (λ (cs : List Change). MayHaveWritten cs c.commit.new.store.log.pending
    (g.W.BenchState.state c.args.flash.now) (g.W.BenchState.state c.commit.new.flash))
    (settled_made c.args.board.now (variables_of c.args.store.now) c.args.now.now c.args.claim
    c.args.end c.line_ended-line.result c.args.claim.floor c.ids_on-ids.result
    c.in_ok-batch.batch.items c.line_ended-line.ensures refl c.ids_on-ids.ensures.value
    c.in_ok-batch.ensures.value) (c.in_err-commit.ensures.images fresh none))

pub returns-clause-value : goal.returns-clause-value
returns-clause-value g c =
    let made = settled_made c.args.board.now (variables_of c.args.store.now) c.args.now.now
    c.args.claim c.args.end c.line_ended-line.result c.args.claim.floor c.ids_on-ids.result
    c.in_ok-batch.batch.items c.line_ended-line.ensures refl c.ids_on-ids.ensures.value
    c.in_ok-batch.ensures.value in
    leaves_told {T = Unit {0}} {V = Unit {0}} (claim_settled c.args.board.now
    (variables_of c.args.store.now) c.args.now.now c.args.claim c.args.end) c.args.store.now
    c.commit.new.store tt tt
    (subst (λ (cs : List Change). LeavesStore {T = Unit {0}} cs c.args.store.now
    c.commit.new.store (Ok tt)) made c.in_ok-commit.ensures.value)

pub returns-clause-durable : goal.returns-clause-durable
returns-clause-durable g c =
    subst (λ (cs : List Change). HasCommitted cs (g.W.BenchState.state c.args.flash.now)
    (g.W.BenchState.state c.commit.new.flash))
    (settled_made c.args.board.now (variables_of c.args.store.now) c.args.now.now c.args.claim
    c.args.end c.line_ended-line.result c.args.claim.floor c.ids_on-ids.result
    c.in_ok-batch.batch.items c.line_ended-line.ensures refl c.ids_on-ids.ensures.value
    c.in_ok-batch.ensures.value) c.in_ok-commit.ensures.durable
