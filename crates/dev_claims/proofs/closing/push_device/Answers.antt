use Rattle.std.proofs.Common.{rules, ◌≡◌, Some, arith}
use Rattle.bench_model.specs.declared.limits.TheConstants.{MAX_DEVICES}
use Rattle.std.proofs.lemmas.Bool.{lt-ltb}
use Rattle.stored_vars.specs.declared.variable.StoredVar.TheVariants.{Device}
use Rattle.var_store.specs.Stores.{variables_of}
use Rattle.dev_claims.proofs.Pushed.{device_pushed}
use Rattle.dev_claims.proofs.Places.{ended_device, new_key, one_more}
use Rattle.dev_claims.proofs.closing.push_device.Goals as goal

pub dev_state-old-requires : goal.dev_state-old-requires
dev_state-old-requires c =
    let e : c.args.line.now.end ≡ Some c.in-Some.end = search rules in
    record {
      number = ended_device c.args.line.now c.args.line.now.end c.in-Some.end
          c.requires.line.device e;
    }

pub set_of-requires : goal.set_of-requires
set_of-requires c =
    let e : c.args.line.now.end ≡ Some c.in-Some.end = search rules in
    lt-ltb c.args.line.now.key.device MAX_DEVICES
    (ended_device c.args.line.now c.args.line.now.end c.in-Some.end c.requires.line.device e)

pub push-requires : goal.push-requires
push-requires c =
    let e : c.args.line.now.end ≡ Some c.in-Some.end = search rules in
    new_key 0 (Device c.args.line.now.key.device) c.in_ok-value.value c.in_ok-set_of.field-0
    c.args.batch.now.items c.in_ok-set_of.ensures
    (lt-ltb c.args.line.now.key.device MAX_DEVICES
    (ended_device c.args.line.now c.args.line.now.end c.in-Some.end c.requires.line.device e))
    (omega arith) c.requires.before

pub returns-in_ok-push-clause-before : goal.returns-in_ok-push-clause-before
returns-in_ok-push-clause-before c =
    let e : c.args.line.now.end ≡ Some c.in-Some.end = search rules in
    one_more 0 1 (Device c.args.line.now.key.device) c.in_ok-value.value c.in_ok-set_of.field-0
    c.args.batch.now.items c.push.new.self.items c.in_ok-push.ensures.ok c.in_ok-set_of.ensures
    (lt-ltb c.args.line.now.key.device MAX_DEVICES
    (ended_device c.args.line.now c.args.line.now.end c.in-Some.end c.requires.line.device e))
    (omega arith) (omega arith) c.requires.before

pub returns-in_ok-push-clause-ok : goal.returns-in_ok-push-clause-ok
returns-in_ok-push-clause-ok c =
    let e : c.args.line.now.end ≡ Some c.in-Some.end = search rules in
    device_pushed c.args.board.now (variables_of c.args.store.now) c.args.line.now c.args.floor
    c.args.line.now.end c.in-Some.end c.dev_state-old.result c.in_ok-value.value
    c.in_ok-set_of.field-0 c.args.batch.now.items c.push.new.self.items c.in_ok-push.ensures.ok
    c.in_ok-set_of.ensures (search rules) c.dev_state-old.ensures.value e
