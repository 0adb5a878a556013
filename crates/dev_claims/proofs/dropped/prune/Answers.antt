use Rattle.std.proofs.Common.{ℕ, sym, subst}
use Rattle.std.specs.Prelude.{Option}
use Rattle.dev_claims.specs.Batches.{prune_changes}
use Rattle.dev_claims.specs.Places.{AreBefore}
use Rattle.dev_claims.proofs.Places.{prune_places}
use Rattle.var_log.proofs.Reclaims.{unmoved}
use Rattle.var_store.proofs.WriteLemmas.{on_err}
use Rattle.var_store.specs.Stores.{variables_of}
use Rattle.var_store.specs.Writes.{MayHaveWritten}
use Rattle.dev_claims.proofs.dropped.prune.Goals as goal

pub returns-in_err-batch-clause-images : goal.returns-in_err-batch-clause-images
returns-in_err-batch-clause-images g c = λ fresh none.
    let bench = g.W.BenchState.state c.args.flash.now in
    on_err c.from_residual.result (subst (λ (pending : Option ℕ).
    MayHaveWritten (prune_changes (variables_of c.args.store.now) c.args.serials.now) pending bench
    bench) (sym none) (unmoved c.args.store.now.log bench (c.requires.stands fresh).log.lies))

pub commit-requires-clause-places : goal.commit-requires-clause-places
commit-requires-clause-places g c =
    subst (AreBefore 5) (sym c.in_ok-batch.ensures.value)
    (prune_places (variables_of c.args.store.now) c.args.serials.now)
