use Rattle.std.proofs.Common.{ℕ, ◌≡◌, ◌+◌, ◌-◌, List, length, take, drop, arith, length-drop}
use Rattle.std.proofs.Common.{Option}
use Rattle.std.proofs.Math.Seq.{take-add}
use Rattle.std.proofs.lemmas.List.{take_all}
use Rattle.std.proofs.KnownBytes.{Appends-trans}
use Rattle.std.specs.Io.KnownBytes.{Appends}
use Rattle.cu_io.proofs.write.write_whole.Goals as goal

-- what was written so far, and then the front of the rest
further : (a b c : Option (List ℕ)) (xs : List ℕ) (d n : ℕ) → Appends a b (take d xs)
    → Appends b c (take n (take (length xs - d) (drop d xs))) → Appends a c (take (d + n) xs)
further a b c xs d n before here =
    let all : take (length xs - d) (drop d xs) ≡ drop d xs =
    take_all _ _ (omega (arith, length-drop d xs)) in
    rw take-add (Appends-trans a b c (take d xs) (take n (drop d xs)) before (rw all at here))

pub loop-done-preserved : goal.loop-done-preserved
loop-done-preserved g c = record {
  within = omega (arith, c.in-Ok.ensures.bound.0, length-drop c.loop-done.done c.args.bytes.now);
  written = further _ _ _ c.args.bytes.now _ _ c.loop-done.invariant.written c.in-Ok.ensures.writes;
  later = omega (arith, c.write.ensures.cause.later);
}
