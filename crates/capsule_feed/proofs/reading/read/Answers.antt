use Rattle.std.proofs.Common.{◌≡◌, ◌+◌, ◌-◌, ◌<◌, ◌≤◌, ℕ, drop, take, length, refl, sym, ap}
use Rattle.std.proofs.Common.{◌∙◌, arith}
use Rattle.std.proofs.Common.{inl, inr}
use Rattle.std.proofs.lemmas.List.{take_all, drop-drop, length-drop, length-take, take-take}
use Rattle.std.proofs.lemmas.Bool.{cases_lt, eqb-true}
use Rattle.capsule_feed.specs.Cursors.{StandAt}
use Rattle.capsule_feed.proofs.ReadSteps.{given_first, given_to, stand_part}
use Rattle.capsule_feed.proofs.reading.read.Goals.{then-loop-reader-test+else-not-is_empty}
use Rattle.capsule_feed.proofs.reading.read.Goals.{else-loop-reader-test}
use Rattle.capsule_feed.proofs.reading.read.Goals as goal

pub loop-reader-init : goal.loop-reader-init
loop-reader-init c =
    let k = c.args.reader.now in
    let piece = c.args.piece.now in
    let none : k.came - k.came ≡ 0 = omega arith in (
      c.requires.within,
      take_all (length c.args.list.now) c.args.list.now (omega arith),
      omega arith,
      omega arith,
      rw none refl,
      omega arith,
      λ told. (refl, refl),
      λ whole next. given_first k.cursor (drop k.from c.args.list.now) k.head k.came
          c.args.events.now.items whole next.goes,
    )

pub advance-requires-clause-some : goal.advance-requires-clause-some
advance-requires-clause-some c =
    let first = c.args.reader.now.came in
    let whole = c.requires.some.whole in
    let next = c.requires.some.holds in
    let inv = c.loop-reader.invariant in
    let rest = c.loop-reader.rest.now in
    let taken = c.min-taken.result in
    let given = inv.7 whole next in
    let on : first < c.args.reader.now.cursor.stop =
    elim (cases_lt first c.args.reader.now.cursor.stop) [
      | inl less ↦ less
      | inr told ↦
          let same = inv.6 told in
          absurd (omega (arith, same.0, same.1, told, c.loop-reader-test.true))
    ] in
    let stand : StandAt c.loop-reader.reader.came (take taken rest) whole =
    stand_part first c.loop-reader.reader.came taken c.args.piece.now rest whole (next.next on)
    inv.3 inv.5 inv.4 (omega (arith, c.min-taken.ensures)) in
    record { whole = whole; holds = (stand, given.goes) }

pub loop-reader-preserved : goal.loop-reader-preserved
loop-reader-preserved c =
    let first = c.args.reader.now.came in
    let inv = c.loop-reader.invariant in
    let rest = c.loop-reader.rest.now in
    let taken = c.min-taken.result in
    let came = c.loop-reader.reader.came in
    let list = c.loop-reader.list in
    let n = length c.args.list.now in
    let some : taken ≤ length rest = omega (arith, c.min-taken.ensures) in
    let long : length (take taken rest) ≡ taken = omega (arith, length-take taken rest, some) in
    let left : length rest ≡ length c.args.piece.now - (came - first) =
    ap length inv.4 ∙ length-drop (came - first) c.args.piece.now in
    let now : c.advance.new.reader.came ≡ came + taken = omega (arith, c.advance.ensures.came, long) in
    let grown : length list ≤ length c.advance.new.list =
    omega (arith, ap length c.advance.ensures.front, length-take (length list) c.advance.new.list) in
    let front : take n c.advance.new.list ≡ c.args.list.now =
    sym (take-take n (length list) c.advance.new.list inv.2)
    ∙ ap (take n) c.advance.ensures.front ∙ inv.1 in
    let sum : (came - first) + taken ≡ c.advance.new.reader.came - first =
    omega (arith, now, inv.3) in (
      c.in_ok-given.ensures.from,
      front,
      omega (arith, grown, inv.2),
      omega (arith, now, inv.3),
      take_all (length rest - taken) (drop taken rest) (omega (arith, length-drop taken rest))
          ∙ ap (drop taken) inv.4 ∙ drop-drop taken (came - first) c.args.piece.now
          ∙ ap (λ (k : ℕ). drop k c.args.piece.now) sum,
      omega (arith, now, some, left, inv.3, inv.5),
      λ told. (
          let same = inv.6 told in
          absurd (omega (arith, same.0, same.1, told, c.loop-reader-test.true))
          ),
      λ whole next.
          let on : first < c.args.reader.now.cursor.stop =
          elim (cases_lt first c.args.reader.now.cursor.stop) [
            | inl less ↦ less
            | inr told ↦
                let same = inv.6 told in
                absurd (omega (arith, same.0, same.1, told, c.loop-reader-test.true))
          ] in
          let stand : StandAt came (take taken rest) whole =
          stand_part first came taken c.args.piece.now rest whole (next.next on)
          inv.3 inv.5 inv.4 some in
          c.in_ok-given.ensures.ok whole first c.args.events.now.items stand (inv.7 whole next),
    )

pub returns-clause-ok : goal.returns-clause-ok
returns-clause-ok c = λ whole next.
    let first = c.args.reader.now.came in
    let inv = c.loop-reader.invariant in
    let k = c.loop-reader.reader.cursor in
    let came = c.loop-reader.reader.came in
    let own = drop c.loop-reader.reader.from c.loop-reader.list in
    let g = inv.7 whole next in
    let left : length c.loop-reader.rest.now ≡ length c.args.piece.now - (came - first) =
    ap length inv.4 ∙ length-drop (came - first) c.args.piece.now in
    let events = c.in_ok-give.ensures.ok (k.stop - k.at) (omega (arith, g.goes.ahead, g.goes.reached)) in
    record {
      goes = g.goes;
      came = elim c.loop-reader-test.branch [
        | then-loop-reader-test+else-not-is_empty w ↦
            let none : length c.loop-reader.rest.now ≡ 0 =
            eqb-true (length c.loop-reader.rest.now) 0
            (sym w.is_empty.ensures ∙ w.if-not-is_empty.false) in
            omega (arith, left, none, inv.3, inv.5, g.goes.ahead)
        | else-loop-reader-test w ↦ omega (arith, w.loop-reader-test, inv.3, inv.5, g.goes.ahead)
      ];
      events = events
          ∙ given_to k own c.loop-reader.reader.head came c.loop-reader.given first came
          c.args.events.now.items c.loop-reader.events.items whole g g.high g.goes.ahead;
    }
