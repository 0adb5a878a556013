use Rattle.std.proofs.Common.{◌≡◌, ◌+◌, ℕ, drop, length, sym, ◌∙◌, arith, subst}
use Rattle.std.proofs.lemmas.Result.{IfOk-weaker}
use Rattle.capsule_feed.specs.Cursors.{IsGiven, IsHead}
use Rattle.capsule_feed.proofs.ReadSteps.{comes, given_come, given_more}
use Rattle.capsule_feed.proofs.reading.advance.Goals as goal

pub pass-requires-clause-some : goal.pass-requires-clause-some
pass-requires-clause-some c =
    let k = c.args.reader.now.cursor in
    let own = drop c.args.reader.now.from c.args.list.now in
    let head = c.args.reader.now.head in
    let bytes = c.args.bytes.now in
    let whole = c.requires.some.whole in
    let s = c.requires.some.holds.0 in
    let at = comes k own head bytes c.args.reader.now.came (length bytes) whole c.requires.some.holds.1
    c.if-is_stopped.ensures.0 s.same c.if-is_stopped.ensures.1 in
    record {
      whole = whole;
      holds = (at.0, rw (c.with-reader.ensures) at.1, c.requires.some.holds.1.within);
    }

pub returns-then-is_stopped-clause-ok : goal.returns-then-is_stopped-clause-ok
returns-then-is_stopped-clause-ok c =
    let k = c.args.reader.now.cursor in
    let own = drop c.args.reader.now.from c.args.list.now in
    let head = c.args.reader.now.head in
    let bytes = c.args.bytes.now in
    let x = c.args.reader.now.came in
    let stop : x + length bytes ≡ k.stop = c.if-is_stopped.ensures.1 in
    let came : k.stop ≡ c.pass.new.reader.came = sym (c.pass.ensures.came ∙ stop) in
    IfOk-weaker c.pass.result _ _
    (λ g ok whole first old s h.
    let at = given_come k own head bytes x c.args.given first old c.args.events.now.items whole h s stop
    c.if-is_stopped.ensures.0 in
    let gathered : IsHead k.kind k c.with-reader.result k.stop whole = rw (c.with-reader.ensures) at.1 in
    subst (λ (n : ℕ). IsGiven c.pass.new.reader.cursor (drop c.pass.new.reader.from c.pass.new.list)
    c.pass.new.reader.head n g first old c.pass.new.events.items whole) came
    (ok whole first x head old h (omega (arith, stop)) at.0 gathered))
    c.pass.ensures.ok

pub returns-clause-ok : goal.returns-clause-ok
returns-clause-ok c = λ whole first old s h.
    let k = c.args.reader.now.cursor in
    let own = drop c.args.reader.now.from c.args.list.now in
    let head = c.args.reader.now.head in
    let bytes = c.args.bytes.now in
    rw (c.with-reader.ensures)
    (given_more k own head bytes c.args.reader.now.came c.args.given first old c.args.events.now.items whole h s
    c.requires.fits c.if-is_stopped.ensures)
