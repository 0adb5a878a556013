use Rattle.std.proofs.Common.{arith}
use Rattle.lane_scan.proofs.Runs.{apart_ends}
use Rattle.lane_scan.proofs.plain_apart.Goals as goal

pub returns-else-at-b-clause-value : goal.returns-else-at-b-clause-value
returns-else-at-b-clause-value c =
    let none = apart_ends c.args.a.now c.args.b.now c.loop-at.at (omega (arith, c.if-at-b.false)) in
    omega (arith, none, c.loop-at.invariant.so_far)
