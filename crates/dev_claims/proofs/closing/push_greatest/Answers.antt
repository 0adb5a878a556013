use Rattle.std.proofs.Common.{arith, refl}
use Rattle.stored_vars.specs.declared.variable.StoredVar.TheVariants.{CapsuleMax}
use Rattle.dev_claims.proofs.Places.{new_key, one_more}
use Rattle.dev_claims.proofs.closing.push_greatest.Goals as goal

pub push-requires : goal.push-requires
push-requires c =
    new_key 2 CapsuleMax c.in_ok-value.value c.in_ok-set_of.field-0 c.args.batch.now.items
    c.in_ok-set_of.ensures refl (omega arith) c.requires.before

pub returns-in_ok-push-clause-before : goal.returns-in_ok-push-clause-before
returns-in_ok-push-clause-before c =
    one_more 2 3 CapsuleMax c.in_ok-value.value c.in_ok-set_of.field-0 c.args.batch.now.items
    c.push.new.self.items c.in_ok-push.ensures.ok c.in_ok-set_of.ensures refl (omega arith)
    (omega arith) c.requires.before
