use Rattle.std.proofs.Common.{◌≡◌, sym, ap, ◌∙◌, arith}
use lib.Count.{count_trailing_zeros}
use Rattle.lane_scan.proofs.Runs.{apart_stops, apart_through}
use Rattle.lane_scan.proofs.first_apart.Goals as goal

pub returns-then-found-ne0 : goal.returns-then-found-ne0
returns-then-found-ne0 c =
    let mask = c.apart_from-found.ensures in
    let here =
    apart_stops c.args.a.now c.args.b.now c.loop-at.at (omega (arith, c.loop-at.invariant.in_a))
    (omega (arith, c.loop-at.invariant.in_b)) (omega (arith, mask)) in
    let place = here ∙ ap (count_trailing_zeros 64) (sym mask) in
    omega (arith, place, c.loop-at.invariant.so_far)

pub loop-at-preserved : goal.loop-at-preserved
loop-at-preserved c =
    let mask = c.apart_from-found.ensures in
    let on =
    apart_through c.args.a.now c.args.b.now c.loop-at.at
    (omega (arith, c.loop-at.invariant.in_a)) (omega (arith, c.loop-at.invariant.in_b))
    (omega (arith, mask)) in
    record {
      so_far = omega (arith, on, c.loop-at.invariant.so_far);
      within = omega arith;
      in_a = c.loop-at.invariant.in_a;
      in_b = c.loop-at.invariant.in_b;
    }
