use Rattle.std.proofs.Common.{◌∙◌, ◌&&◌, ◌++◌, ap, sym, replicate}
use Rattle.std.proofs.lemmas.Bool.{false_from_ne_true, eq-eqb, eqb-true}
use Rattle.std.specs.Str.{bytes_eq}
use Rattle.stored_vars.specs.Records.{claim_spelled, is_record, name_at, numbers_at, state_at_front, state_bytes}
use Rattle.stored_vars.proofs.RecordLemmas.{record_bare, record_flagged, record_name, record_size}
use Rattle.stored_vars.proofs.record.is_record.Goals as goal

pub returns-then-bytes-ne-DEVICE_RECORD_BYTES-clause-value : goal.returns-then-bytes-ne-DEVICE_RECORD_BYTES-clause-value
returns-then-bytes-ne-DEVICE_RECORD_BYTES-clause-value c =
    sym (false_from_ne_true (is_record c.args.bytes.now) (λ is.
    c.if-bytes-ne-DEVICE_RECORD_BYTES.true (record_size c.args.bytes.now is)))

pub returns-then-bytes-ne-OPEN-clause-value : goal.returns-then-bytes-ne-OPEN-clause-value
returns-then-bytes-ne-OPEN-clause-value c =
    let bytes = c.args.bytes.now in
    c.eq.ensures
    ∙ ap (λ l. bytes_eq l bytes) (c.spell.ensures
    ∙ ap (λ s. state_bytes s ++ replicate 80 0) c.state_at_front-state.ensures)
    ∙ sym (record_bare bytes
    (false_from_ne_true _ (λ e. c.if-bytes-ne-OPEN.true (eqb-true _ _ e))))

pub returns-in-Some-clause-value : goal.returns-in-Some-clause-value
returns-in-Some-clause-value c =
    let bytes = c.args.bytes.now in
    let spelled = c.spell_claimed.ensures
    ∙ ap (λ s. state_bytes s ++ claim_spelled c.numbers_at.result c.in-Some.name.now)
    c.state_at_front-state.ensures
    ∙ ap (λ n. state_bytes (state_at_front bytes) ++ claim_spelled n c.in-Some.name.now)
    c.numbers_at.ensures
    ∙ ap (λ l. state_bytes (state_at_front bytes) ++ claim_spelled (numbers_at bytes) l)
    c.in-Some.ensures.1 in
    c.eq-in-Some.ensures ∙ ap (λ l. bytes_eq l bytes) spelled
    ∙ sym (record_flagged bytes (eq-eqb _ _ c.if-bytes-ne-OPEN.false)
    ∙ ap (λ z. z && bytes_eq (state_bytes (state_at_front bytes)
    ++ claim_spelled (numbers_at bytes) (name_at bytes)) bytes) c.in-Some.ensures.0)

pub returns-in-None-clause-value : goal.returns-in-None-clause-value
returns-in-None-clause-value c =
    let bytes = c.args.bytes.now in
    sym (false_from_ne_true (is_record bytes) (λ is. c.in-None.ensures
    (record_name bytes is (eq-eqb _ _ c.if-bytes-ne-OPEN.false))))
