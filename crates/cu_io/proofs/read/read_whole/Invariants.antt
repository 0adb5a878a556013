use Rattle.std.proofs.Common.{◌≡◌, ◌+◌, ◌-◌, ◌≤◌, length, vec_len}
use Rattle.std.specs.Io.KnownBytes.{Consumes}
use Rattle.cu_base.specs.Causes.{RoseBy}
use Rattle.cu_io.proofs.read.read_whole.Given as goal

-- what was taken so far, and no fault was passed over
abbrev pub invariant-loop-all : goal.invariant-loop-all
invariant-loop-all g l = record {
  taken : Consumes (g.S.Source.seen l.initial.source).left (g.S.Source.seen l.source).left l.all;
  counted : RoseBy (length l.all) (g.S.Source.seen l.initial.source).taken
      (g.S.Source.seen l.source).taken;
  within : length l.all ≤ l.fn.limit + 1;
  room : vec_len l.piece ≡ 65536;
  later : (g.S.Source.seen l.initial.source).faults ≤ (g.S.Source.seen l.source).faults;
}

abbrev pub decreases-loop-all : goal.decreases-loop-all
decreases-loop-all g l = l.fn.limit + 1 - length l.all
