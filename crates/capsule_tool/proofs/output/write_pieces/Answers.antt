use Rattle.std.proofs.Common.{arith}
use Rattle.capsule_grammar.specs.Pieces.{joined}
use Rattle.capsule_tool.proofs.OutputLaws.{all_is_front, all_pieces, pieces_on, stopped_at}
use Rattle.capsule_tool.proofs.output.write_pieces.Goals as goal

pub returns-in_err-write_whole-clause-err : goal.returns-in_err-write_whole-clause-err
returns-in_err-write_whole-clause-err g c =
    stopped_at c.args.pieces.now c.loop-piece.piece-index c.piece-item.result
    (g.O.Sink.seen c.args.out.now) (g.O.Sink.seen c.loop-piece.out)
    (g.O.Sink.seen c.write_whole.new.sink) (omega arith) c.piece-item.is
    c.loop-piece.invariant.so_far (rw c.as_slice.ensures at c.write_whole.ensures.err)

pub loop-piece-preserved : goal.loop-piece-preserved
loop-piece-preserved g c = record {
  so_far = pieces_on c.args.pieces.now c.loop-piece.piece-index c.piece-item.result
      (g.O.Sink.seen c.args.out.now) (g.O.Sink.seen c.loop-piece.out)
      (g.O.Sink.seen c.write_whole.new.sink) (omega arith) c.piece-item.is
      c.loop-piece.invariant.so_far (rw c.as_slice.ensures at c.in_ok-write_whole.ensures.ok);
  later = omega (arith, c.loop-piece.invariant.later, c.write_whole.ensures.cause.later);
}

pub returns-clause-ok : goal.returns-clause-ok
returns-clause-ok g c =
    all_pieces c.args.pieces.now c.loop-piece.piece-index (g.O.Sink.seen c.args.out.now)
    (g.O.Sink.seen c.loop-piece.out) (omega arith) c.loop-piece.invariant.so_far

pub returns-clause-err : goal.returns-clause-err
returns-clause-err g c =
    all_is_front (g.O.Sink.seen c.args.out.now) (g.O.Sink.seen c.loop-piece.out)
    (joined c.args.pieces.now)
    (all_pieces c.args.pieces.now c.loop-piece.piece-index (g.O.Sink.seen c.args.out.now)
    (g.O.Sink.seen c.loop-piece.out) (omega arith) c.loop-piece.invariant.so_far)
