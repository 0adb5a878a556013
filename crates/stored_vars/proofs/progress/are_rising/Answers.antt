use Rattle.std.proofs.Common.{◌∙◌, ◌+◌, ◌/◌, ◌&&◌, length, ap, sym, arith}
use Rattle.std.proofs.lemmas.Bool.{le-ltb, lt-ltb}
use Rattle.stored_vars.specs.Progress.{are_rising, entry_at}
use Rattle.stored_vars.specs.declared.progress.ProgressEntry.{ProgressEntry}
use Rattle.stored_vars.proofs.ProgressLemmas.{left, rising_step, rising_end}
use Rattle.stored_vars.proofs.progress.are_rising.Goals as goal

pub returns-then-entry_at : goal.returns-then-entry_at
returns-then-entry_at c =
    let f = entry_at c.args.bytes.now in
    let n = length c.args.bytes.now / 12 in
    let k = c.loop-k.k in
    let here = ap (λ (e : ProgressEntry). e.serial) c.entry_at.ensures in
    let next = ap (λ (e : ProgressEntry). e.serial) c.entry_at-in-loop-k.ensures in
    sym (c.loop-k.invariant
    ∙ rising_step f k n
    (omega (arith, c.loop-k-test.true, c.saturating_sub-k-end.ensures))
    ∙ ap (λ z. z && are_rising (left f (k + 1) n))
    (le-ltb (f k).serial (f (k + 1)).serial
    (omega (arith, c.if-entry_at.true, here, next))))

pub loop-k-preserved : goal.loop-k-preserved
loop-k-preserved c =
    let f = entry_at c.args.bytes.now in
    let n = length c.args.bytes.now / 12 in
    let k = c.loop-k.k in
    let here = ap (λ (e : ProgressEntry). e.serial) c.entry_at.ensures in
    let next = ap (λ (e : ProgressEntry). e.serial) c.entry_at-in-loop-k.ensures in
    c.loop-k.invariant
    ∙ rising_step f k n
    (omega (arith, c.loop-k-test.true, c.saturating_sub-k-end.ensures))
    ∙ ap (λ z. z && are_rising (left f (k + 1) n))
    (lt-ltb (f k).serial (f (k + 1)).serial
    (omega (arith, c.if-entry_at.false, here, next)))

pub returns : goal.returns
returns c =
    let n = length c.args.bytes.now / 12 in
    sym (c.loop-k.invariant
    ∙ rising_end (entry_at c.args.bytes.now) c.loop-k.k n
    (omega (arith, c.loop-k-test.false, c.saturating_sub-k-end.ensures)))
