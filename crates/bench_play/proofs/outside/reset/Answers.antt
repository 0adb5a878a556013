use Rattle.std.proofs.Common.{rules, ◌≡◌, true, false}
use Rattle.bench_play.proofs.OutsideEvents.{as_told, reset_happens}
use Rattle.bench_play.proofs.outside.reset.Goals as goal
use Rattle.bench_play.proofs.outside.reset.Goals.{else-not-cold-via-else-not-cold}
use Rattle.bench_play.proofs.outside.reset.Goals.{else-not-cold-via-then-not-cold+else-not-known}

pub returns-clause-does : goal.returns-clause-does
returns-clause-does g c x bytes_of =
    let state = g.W.BenchState.state in
    let fault : c.args.cold ≡ false → c.args.known.now.failed ≡ true =
    λ is. elim c.else-not-cold.branch [
      | else-not-cold-via-then-not-cold+else-not-known w ↦ search rules
      | else-not-cold-via-else-not-cold w ↦ search rules
    ] in
    as_told c.plain.ensures (reset_happens x bytes_of c.args.known.now (state c.args.bench.now)
    (state c.cycle.new.self) c.args.cold c.cycle.ensures.ok fault)
