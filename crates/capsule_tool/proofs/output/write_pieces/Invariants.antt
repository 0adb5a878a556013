use Rattle.std.proofs.Common.{◌≤◌, take}
use Rattle.capsule_grammar.specs.Pieces.{joined}
use Rattle.cu_io.specs.Streams.{AppendsAll}
use Rattle.capsule_tool.proofs.output.write_pieces.Given as goal

-- the pieces before this one are written, and no fault was taken back
abbrev pub invariant-loop-piece : goal.invariant-loop-piece
invariant-loop-piece g l = record {
  so_far : AppendsAll (g.O.Sink.seen l.fn.out) (g.O.Sink.seen l.out)
      (joined (take l.piece-index l.pieces));
  later : (g.O.Sink.seen l.fn.out).faults ≤ (g.O.Sink.seen l.out).faults;
}
