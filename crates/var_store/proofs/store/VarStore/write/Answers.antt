use Rattle.std.proofs.Common.{◌≡◌, ◌∙◌, ap, sym, subst, ℕ, None}
use Rattle.std.specs.Prelude.{Option}
use Rattle.var_log.specs.Logs.{LogValue}
use Rattle.var_log.proofs.Reclaims.{unmoved}
use Rattle.var_store.specs.Writes.{MayHaveWritten}
use Rattle.var_store.proofs.WriteLemmas.{on_err}
use Rattle.var_store.proofs.store.VarStore.write.Goals as goal

pub returns-in_err-prepared-clause-images : goal.returns-in_err-prepared-clause-images
returns-in_err-prepared-clause-images g c = λ fresh none.
    let bench = g.F.BenchState.state c.args.flash.now in
    let still : c.prepare_set.new.self.log.pending ≡ None =
    ap (λ (l : LogValue). l.pending) c.prepare_set.ensures.frame.log ∙ none in
    on_err c.from_residual.result (subst (λ (pending : Option ℕ).
    MayHaveWritten c.args.batch.now.items pending bench bench) (sym still)
    (unmoved c.args.self.now.log bench (c.requires.stands fresh).log.lies))
