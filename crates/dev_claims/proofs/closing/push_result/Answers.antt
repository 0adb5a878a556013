use Rattle.std.proofs.Common.{rules, ◌≤◌, ◌+◌, ◌^◌, length, arith}
use Rattle.report_tables.specs.Results.{fmp_bytes}
use Rattle.std.proofs.lemmas.Bool.{lt-ltb}
use Rattle.stored_vars.specs.declared.variable.StoredVar.TheVariants.{Outcome}
use Rattle.dev_claims.proofs.Pushed.{result_pushed}
use Rattle.dev_claims.proofs.Places.{new_key, one_more}
use Rattle.dev_claims.proofs.closing.push_result.Goals as goal

pub write-requires : goal.write-requires
write-requires c = record {
  writable = lt-ltb (48 + length (fmp_bytes c.in_ok-fmp_part.field-0)) (2 ^ 32)
      (let size : length (fmp_bytes c.in_ok-fmp_part.field-0) ≤ 400 =
      c.in_ok-fmp_part.ensures.size in omega arith);
}

pub push-requires : goal.push-requires
push-requires c =
    new_key 1 (Outcome c.args.number) c.in_ok-value.value c.in_ok-set_of.field-0
    c.args.batch.now.items c.in_ok-set_of.ensures (search rules) (omega arith) c.requires.before

pub returns-clause-before : goal.returns-clause-before
returns-clause-before c =
    one_more 1 2 (Outcome c.args.number) c.in_ok-value.value c.in_ok-set_of.field-0
    c.args.batch.now.items c.push.new.self.items c.in_ok-push.ensures.ok c.in_ok-set_of.ensures
    (search rules) (omega arith) (omega arith) c.requires.before

pub returns-clause-ok : goal.returns-clause-ok
returns-clause-ok c = λ floor.
    result_pushed c.args.board.now c.args.number c.args.line.now floor c.args.ids.now c.args.now.now
    c.in_ok-fmp_part.field-0 c.in_ok-value.value c.in_ok-set_of.field-0 c.args.batch.now.items
    c.push.new.self.items c.in_ok-push.ensures.ok c.in_ok-set_of.ensures c.in_ok-value.ensures.value
    c.requires.line.status (c.in_ok-fmp_part.ensures.value floor c.args.now.now)
