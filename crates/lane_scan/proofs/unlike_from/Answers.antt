use Rattle.std.proofs.Common.{◌≡◌, eqb, not, length, take, drop, w8, arith}
use Rattle.std.proofs.lemmas.List.{length-drop, length-take}
use Rattle.std.proofs.lemmas.Simd.{bitmask_splat}
use Rattle.lane_scan.proofs.unlike_from.Goals as goal

pub returns : goal.returns
returns c =
    let lanes = take 32 (drop c.args.at c.args.bytes.now) in
    let size : length lanes ≡ 32 =
    omega (
      arith,
      c.requires,
      length-drop c.args.at c.args.bytes.now,
      length-take 32 (drop c.args.at c.args.bytes.now),
    ) in
    bitmask_splat w8 (λ a b. not (eqb a b)) lanes 32 c.args.like size (omega arith)
