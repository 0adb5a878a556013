use Rattle.std.proofs.Common.{rules, ◌≡◌}
use Rattle.bench_play.specs.Inputs.{input_bytes}
use Rattle.bench_play.proofs.OutsideEvents.{lay_does}
use Rattle.bench_play.proofs.deliveries.lay_input.Goals as goal

pub returns-clause-does : goal.returns-clause-does
returns-clause-does g c x =
    let state = g.W.BenchState.state in
    let bytes_of = input_bytes c.args.loaded.now.items in
    let is : bytes_of c.args.input.now ≡ c.in-Some.bytes.now = search rules in
    lay_does x bytes_of c.args.at c.args.input.now c.in-Some.bytes.now c.args.known.now
    (state c.args.bench.now) c.lay_bytes.result (state c.lay_bytes.new.bench) is
    (c.lay_bytes.ensures.does x bytes_of)
