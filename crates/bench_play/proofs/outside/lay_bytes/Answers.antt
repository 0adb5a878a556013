use Rattle.bench_play.proofs.OutsideEvents.{as_told, lay_happens}
use Rattle.bench_play.proofs.outside.lay_bytes.Goals as goal

pub returns-in-Ok-clause-does : goal.returns-in-Ok-clause-does
returns-in-Ok-clause-does g c x bytes_of =
    let state = g.W.BenchState.state in
    as_told c.plain.ensures (lay_happens x bytes_of c.args.at c.args.bytes.now c.args.known.now
    (state c.args.bench.now) (state c.lay.new.self) c.in-Ok.ensures.ok c.in-Ok.ensures.refused)
