use Rattle.std.proofs.Common.{◌≡◌, ◌∙◌, ◌++◌, ◌∷◌, [], ◌+◌, ◌*◌, ◌<◌, ◌≤◌, length, take, get_or}
use Rattle.std.proofs.Common.{ap, sym, subst, arith}
use Rattle.std.specs.Str.{IsUtf8}
use Rattle.std.proofs.lemmas.List.{take_more, take_all}
use Rattle.std.proofs.lemmas.Str.{IsUtf8-from_ascii}
use Rattle.report_tables.specs.Units.{text_at_front}
use Rattle.report_tables.proofs.UnitLemmas.{ended, low_byte, ascii_at, ascii_bytes}
use Rattle.report_tables.proofs.units.ascii_text.Goals as goal

pub overflow_mul-k : goal.overflow_mul-k
overflow_mul-k c =
    omega (arith, (ended c.args.bytes.now c.args.count c.requires.ended).room, c.loop-k-test.true)

pub bounds-bytes-k : goal.bounds-bytes-k
bounds-bytes-k c =
    omega (arith, (ended c.args.bytes.now c.args.count c.requires.ended).room, c.loop-k-test.true)

pub loop-k-preserved : goal.loop-k-preserved
loop-k-preserved c =
    let is = ended c.args.bytes.now c.args.count c.requires.ended in
    let text = text_at_front c.args.bytes.now in
    let k = c.loop-k.k in
    let here : k < length text = omega (arith, is.count, c.loop-k-test.true) in
    let room : 2 * k + 2 ≤ length c.args.bytes.now =
    omega (arith, is.room, c.loop-k-test.true) in
    c.in_ok-push_slice.ensures.ok
    ∙ ap (λ xs. xs ++ get_or c.args.bytes.now (2 * k) 0 ∷ []) c.loop-k.invariant
    ∙ ap (λ b. take k text ++ b ∷ [])
    (low_byte c.args.bytes.now k (get_or text k 0) room
    (sym (is.unit k c.loop-k-test.true)) (ascii_at text k c.requires.ascii here))
    ∙ sym (take_more text k 0 here)

pub unreachable-requires : goal.unreachable-requires
unreachable-requires c =
    let is = ended c.args.bytes.now c.args.count c.requires.ended in
    let text = text_at_front c.args.bytes.now in
    let whole : c.as_slice.result.now ≡ text =
    c.as_slice.ensures ∙ c.loop-k.invariant
    ∙ take_all c.loop-k.k text (omega (arith, is.count, c.loop-k-test.false)) in
    c.in-Err.ensures.cases.0
    (subst IsUtf8 (sym whole)
    (IsUtf8-from_ascii text (ascii_bytes text c.requires.ascii)))
