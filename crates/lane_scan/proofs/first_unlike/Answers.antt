use Rattle.std.proofs.Common.{◌≡◌, sym, ap, ◌∙◌, arith}
use lib.Count.{count_trailing_zeros}
use Rattle.lane_scan.proofs.Runs.{unlike_stops, unlike_through}
use Rattle.lane_scan.proofs.first_unlike.Goals as goal

pub returns-then-found-ne0 : goal.returns-then-found-ne0
returns-then-found-ne0 c =
    let mask = c.unlike_from-found.ensures in
    let here =
    unlike_stops c.args.like c.args.bytes.now c.loop-at.at (omega arith)
    (omega (arith, mask)) in
    let place = here ∙ ap (count_trailing_zeros 64) (sym mask) in
    omega (arith, place, c.loop-at.invariant.so_far)

pub loop-at-preserved : goal.loop-at-preserved
loop-at-preserved c =
    let mask = c.unlike_from-found.ensures in
    let on =
    unlike_through c.args.like c.args.bytes.now c.loop-at.at (omega arith)
    (omega (arith, mask)) in
    record { so_far = omega (arith, on, c.loop-at.invariant.so_far); within = omega arith }
