use Rattle.std.proofs.Common.{ℕ, [], List, drop, length, arith, subst}
use Rattle.std.proofs.lemmas.List.{take_all}
use Rattle.capsule_feed.specs.Cursors.{Goes, IsStopped, own_behind}
use Rattle.capsule_feed.proofs.OffsetSteps.{stopped}
use Rattle.capsule_feed.proofs.turning.turn.Goals as goal

pub returns-in_default : goal.returns-in_default
returns-in_default c =
    let k = c.args.c in
    let old = c.args.list.now in
    let own = drop c.args.from old in
    record {
      ok = λ whole inside gathered within.
          let s : IsStopped k.kind k own c.args.head.now whole =
          stopped k.kind k own c.args.head.now whole c.in_default.not-Offsets inside gathered in
          let s2 : IsStopped k.kind k c.own.result.now c.as_slice-in_default.result.now whole =
          rw (c.own.ensures, c.as_slice-in_default.ensures) s in
          subst (λ (l : List ℕ). Goes c.turned.result (own_behind k.kind l) [] k.stop whole) c.own.ensures
          (c.turned.ensures whole s2);
      front = take_all (length old) old (omega arith);
    }
