use Rattle.std.proofs.Common.{arith, refl}
use Rattle.stored_vars.specs.declared.variable.StoredVar.TheVariants.{Progress}
use Rattle.dev_claims.proofs.Places.{as_before, new_key, one_more}
use Rattle.dev_claims.proofs.closing.push_progress.Goals as goal

pub push-requires : goal.push-requires
push-requires c =
    new_key 4 Progress c.in_ok-value.value c.in_ok-set_of.field-0 c.args.batch.now.items
    c.in_ok-set_of.ensures refl (omega arith) c.requires.before

pub returns-in_ok-push-clause-before : goal.returns-in_ok-push-clause-before
returns-in_ok-push-clause-before c =
    one_more 4 5 Progress c.in_ok-value.value c.in_ok-set_of.field-0 c.args.batch.now.items
    c.push.new.self.items c.in_ok-push.ensures.ok c.in_ok-set_of.ensures refl (omega arith)
    (omega arith) c.requires.before

pub returns-else-key-eq1-clause-before : goal.returns-else-key-eq1-clause-before
returns-else-key-eq1-clause-before c =
    as_before 4 5 c.args.batch.now.items (omega arith) c.requires.before
