use Rattle.std.proofs.Common.{◌∙◌, ◌/◌, ◌==◌, length, ap, sym, arith, unwrap_or, option_map}
use Rattle.std.proofs.lemmas.Bool.{eq-eqb, false_from_ne_true, eqb-true}
use Rattle.stored_vars.specs.Progress.{entry_at}
use Rattle.stored_vars.specs.declared.progress.ProgressEntry.{ProgressEntry}
use Rattle.stored_vars.proofs.ProgressLemmas.{found_here, found_later, found_none}
use Rattle.stored_vars.proofs.progress.units_among.Goals as goal

pub returns-then-entry-serial : goal.returns-then-entry-serial
returns-then-entry-serial c =
    let f = entry_at c.args.bytes.now in
    let n = length c.args.bytes.now / 12 in
    let is = ap (λ (e : ProgressEntry). e.serial) c.entry_at-entry.ensures in
    ap (λ (e : ProgressEntry). e.units) c.entry_at-entry.ensures
    ∙ sym (ap (λ o. unwrap_or (option_map (λ (e : ProgressEntry). e.units) o) 0)
    (c.loop-k.invariant
    ∙ found_here (λ (e : ProgressEntry). e.serial == c.args.serial) f c.loop-k.k n
    (omega (arith, c.loop-k-test.true))
    (eq-eqb _ _ (sym is ∙ c.if-entry-serial.true))))

pub loop-k-preserved : goal.loop-k-preserved
loop-k-preserved c =
    let f = entry_at c.args.bytes.now in
    let n = length c.args.bytes.now / 12 in
    let is = ap (λ (e : ProgressEntry). e.serial) c.entry_at-entry.ensures in
    c.loop-k.invariant
    ∙ found_later (λ (e : ProgressEntry). e.serial == c.args.serial) f c.loop-k.k n
    (omega (arith, c.loop-k-test.true))
    (false_from_ne_true _ (λ same. c.if-entry-serial.false (is ∙ eqb-true _ _ same)))

pub returns : goal.returns
returns c =
    let n = length c.args.bytes.now / 12 in
    sym (ap (λ o. unwrap_or (option_map (λ (e : ProgressEntry). e.units) o) 0)
    (c.loop-k.invariant
    ∙ found_none (λ (e : ProgressEntry). e.serial == c.args.serial) (entry_at c.args.bytes.now)
    c.loop-k.k n (omega (arith, c.loop-k-test.false))))
