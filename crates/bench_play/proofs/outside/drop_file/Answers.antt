use Rattle.std.proofs.Common.{rules, ◌≡◌, subst}
use Rattle.bench_model.specs.Bench.{PutStops}
use Rattle.bench_model.specs.declared.faults.VolumeFault.{VolumeFault}
use Rattle.bench_model.specs.declared.faults.VolumeFault.TheVariants as volume
use Rattle.bench_play.proofs.OutsideEvents.{as_told, put_fails, put_happens}
use Rattle.bench_play.proofs.outside.drop_file.Goals as goal

pub returns-in-Ok-clause-does : goal.returns-in-Ok-clause-does
returns-in-Ok-clause-does g c x bytes_of input is =
    let state = g.W.BenchState.state in
    as_told c.plain.ensures (put_happens x bytes_of c.args.file.now input c.args.known.now
    (state c.args.bench.now) (state c.put.new.self) c.args.bytes.now c.in-Ok.serial is
    c.in-Ok.ensures.ok c.in-Ok.ensures.refused)

pub returns-in-Err-Failed-clause-does : goal.returns-in-Err-Failed-clause-does
returns-in-Err-Failed-clause-does g c x bytes_of input is =
    let state = g.W.BenchState.state in
    let same : c.in-Err-Failed.field-0 ≡ volume.Failed = search rules in
    as_told c.plain-in-Err-Failed.ensures (put_fails x bytes_of c.args.file.now input
    c.args.known.now (state c.args.bench.now) (state c.put.new.self) c.args.bytes.now is
    (subst (λ (f : VolumeFault). PutStops c.args.file.now c.args.bytes.now (state c.args.bench.now)
    (state c.put.new.self) f) same c.in-Err-Failed.ensures.err))
