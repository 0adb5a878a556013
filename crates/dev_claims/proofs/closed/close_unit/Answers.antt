use Rattle.std.proofs.Common.{ℕ, sym, subst}
use Rattle.std.specs.Prelude.{Option}
use Rattle.dev_claims.specs.ClosedBy.{element_told}
use Rattle.dev_claims.specs.Units.{close_changes}
use Rattle.var_log.proofs.Reclaims.{unmoved}
use Rattle.var_store.proofs.WriteLemmas.{on_err}
use Rattle.var_store.specs.Stores.{variables_of}
use Rattle.var_store.specs.Writes.{MayHaveWritten}
use Rattle.dev_claims.proofs.closed.close_unit.Goals as goal

pub returns-in_err-batch-clause-images : goal.returns-in_err-batch-clause-images
returns-in_err-batch-clause-images g c = λ fresh none.
    let bench = g.W.BenchState.state c.args.flash.now in
    on_err c.from_residual.result (subst (λ (pending : Option ℕ).
    MayHaveWritten (close_changes c.args.board.now (variables_of c.args.store.now)
    (element_told c.args.line.now c.args.ids.now c.args.now.now)) pending bench
    bench) (sym none) (unmoved c.args.store.now.log bench (c.requires.stands fresh).log.lies))
