use Rattle.std.proofs.Common.{rules, ◌≡◌, [], sym, subst, arith}
use Rattle.bench_model.specs.declared.limits.TheConstants.{MAX_DEVICES}
use Rattle.dev_claims.specs.Places.{AreBefore}
use Rattle.dev_claims.proofs.Places.{one_more}
use Rattle.std.proofs.lemmas.Bool.{lt-ltb}
use Rattle.stored_vars.specs.declared.variable.StoredVar.TheVariants.{Device}
use Rattle.dev_claims.proofs.preparing.claim_batch.Goals as goal

pub returns-clause-places : goal.returns-clause-places
returns-clause-places c =
    let none : c.new-batch.result.items ≡ [] = search rules in
    one_more 0 5 (Device c.args.claim.now.key.device) c.in_ok-value.value c.in_ok-set_of.field-0
    c.new-batch.result.items c.push.new.self.items c.in_ok-push.ensures.ok c.in_ok-set_of.ensures
    (lt-ltb c.args.claim.now.key.device MAX_DEVICES c.requires.device) (omega arith) (omega arith)
    (subst (AreBefore 0) (sym none) tt)
