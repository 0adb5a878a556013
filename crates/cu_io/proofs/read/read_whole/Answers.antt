use Rattle.std.proofs.Common.{◌+◌, arith, length-take}
use Rattle.cu_io.proofs.Taking.{takes_some_after}
use Rattle.cu_io.proofs.read.read_whole.Goals as goal

pub returns-in-Err-clause-err : goal.returns-in-Err-clause-err
returns-in-Err-clause-err g c =
    let seen = g.S.Source.seen in
    takes_some_after (seen c.args.source.now) (seen c.loop-all.source)
    (seen c.take_piece.new.source)
    c.loop-all.all _ (c.args.limit + 1) c.loop-all.invariant.taken
    (omega (arith, length-take c.min-room.result c.deref_mut.result.now)) c.in-Err.ensures.err
