use Rattle.std.proofs.Common.{rules, ◌≡◌, ◌≤◌, ◌∙◌, length, sym, ap, subst, arith, refl}
use Rattle.dev_claims.specs.ClosedBy.{element_with}
use Rattle.dev_claims.specs.Units.{close_changes, device_changes, greatest_changes, next_result}
use Rattle.dev_claims.specs.Units.{progress_changes, result_changes}
use Rattle.reference_machine.specs.Results.{result_at}
use Rattle.stored_vars.specs.Edits.{set_of}
use Rattle.stored_vars.specs.Holds.{bytes_in}
use Rattle.stored_vars.specs.Last.{last_bytes}
use Rattle.stored_vars.specs.declared.variable.StoredVar.TheVariants.{CapsuleLast, CapsuleMax}
use Rattle.var_store.specs.Stores.{variables_of}
use Rattle.dev_claims.proofs.Pushed.{close_few, close_made}
use Rattle.dev_claims.proofs.Places.{new_key, one_more}
use Rattle.dev_claims.proofs.closing.close_batch.Goals as goal

pub push-requires : goal.push-requires
push-requires c =
    new_key 3 CapsuleLast c.in_ok-last.last c.in_ok-set_of.field-0 c.push_greatest.new.batch.items
    c.in_ok-set_of.ensures refl (omega arith) c.in_ok-push_greatest.ensures.before

pub push_progress-requires : goal.push_progress-requires
push_progress-requires c = record {
  before = one_more 3 4 CapsuleLast c.in_ok-last.last c.in_ok-set_of.field-0
      c.push_greatest.new.batch.items c.push.new.self.items c.in_ok-push.ensures.ok
      c.in_ok-set_of.ensures refl (omega arith) (omega arith) c.in_ok-push_greatest.ensures.before;
}

-- what was pushed, one behind another
made : (c : goal.In_ok-push_progress) → c.push_progress.new.batch.items
    ≡ close_changes c.args.board.now (variables_of c.args.store.now)
    (element_with c.args.line.now c.args.floor c.args.ids.now c.args.now.now)
made c =
    let variables = variables_of c.args.store.now in
    let line = c.args.line.now in
    let told = element_with line c.args.floor c.args.ids.now c.args.now.now in
    close_made (device_changes c.args.board.now variables told line.end)
    (λ n. result_changes (result_at c.args.board.now n told told.standing))
    (greatest_changes c.args.board.now (bytes_in variables CapsuleMax))
    (λ n. set_of CapsuleLast (last_bytes n)) (progress_changes variables line.key)
    c.next_result-number.result (next_result c.args.board.now variables) c.in_ok-set_of.field-0
    c.new-batch.result.items c.push_device.new.batch.items c.push_result.new.batch.items
    c.push_greatest.new.batch.items c.push.new.self.items c.push_progress.new.batch.items
    (search rules)
    (c.in_ok-push_device.ensures.ok c.args.ids.now c.args.now.now)
    (c.in_ok-push_result.ensures.ok c.args.floor) c.in_ok-push_greatest.ensures.ok c.in_ok-push.ensures.ok
    (c.in_ok-set_of.ensures
    ∙ ap (set_of CapsuleLast) (c.in_ok-last.ensures ∙ c.result_name_bytes.ensures.value))
    c.in_ok-push_progress.ensures.ok c.next_result-number.ensures.value

pub returns : goal.returns
returns c = record {
  value = made c;
  places = c.in_ok-push_progress.ensures.before;
  few = subst (λ cs. length cs ≤ 8) (sym (made c))
      (close_few c.args.board.now (variables_of c.args.store.now)
      (element_with c.args.line.now c.args.floor c.args.ids.now c.args.now.now));
}
