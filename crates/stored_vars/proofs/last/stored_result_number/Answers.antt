use Rattle.std.proofs.Common.{◌∙◌, false, ap, sym, arith}
use Rattle.std.specs.Str.{bytes_eq}
use Rattle.stored_vars.specs.Last.{last_bytes}
use Rattle.stored_vars.proofs.LastLemmas.{last_sized, last_named}
use Rattle.stored_vars.proofs.last.stored_result_number.Goals as goal

pub returns-then-bytes-ne-RESULT_NAME_BYTES : goal.returns-then-bytes-ne-RESULT_NAME_BYTES
returns-then-bytes-ne-RESULT_NAME_BYTES c = record {
  value = sym (last_sized c.args.bytes.now c.if-bytes-ne-RESULT_NAME_BYTES.true);
}

pub returns-else-eq : goal.returns-else-eq
returns-else-eq c =
    let bytes = c.args.bytes.now in
    let other = ap (λ k. bytes_eq (last_bytes k) bytes) (sym c.number_named-number.ensures)
    ∙ ap (λ l. bytes_eq l bytes) (sym c.result_name_bytes.ensures.value)
    ∙ sym c.eq.ensures ∙ c.if-eq.false in
    record {
      value = sym (last_named bytes false
          (omega (arith, c.if-number-gt-MAX_NUMBER.false, c.number_named-number.ensures)) other);
    }
