use Rattle.std.proofs.Common.{ℕ, Bool, ◌≤◌, ◌%◌, ◌^◌, ◌==◌, not, length, take, drop, w8, ap, ◌∙◌}
use Rattle.std.proofs.Common.{arith}
use Rattle.std.specs.Simd.Lanes.{mask_l, zip2}
use Rattle.std.proofs.lemmas.List.{length-take}
use Rattle.std.proofs.lemmas.Simd.{mask_l-mod, tops_compared}
use Rattle.lane_scan.proofs.Runs.{length-most}
use Rattle.lane_scan.proofs.apart_from.Goals as goal

pub returns : goal.returns
returns c =
    let other : ℕ → ℕ → Bool = λ x y. not (x == y) in
    let xs = take 32 (drop c.args.at c.args.a.now) in
    let ys = take 32 (drop c.args.at c.args.b.now) in
    let few : length (zip2 other xs ys) ≤ 64 =
    omega (arith, length-most other xs ys, length-take 32 (drop c.args.at c.args.a.now)) in
    ap (λ bits. mask_l bits % 2 ^ 64) (tops_compared w8 other xs ys)
    ∙ mask_l-mod (zip2 other xs ys) 64 few
