use Rattle.bench_model.specs.Bench.{BenchValue, region_at}
use Rattle.fmp_slot.proofs.SlotImages.{sealing, seals_then_sync, sealed}
use Rattle.fmp_slot.proofs.moves.put_seal.Goals as goal

pub returns-in_err-write-clause-images : goal.returns-in_err-write-clause-images
returns-in_err-write-clause-images g c = λ s received.
    let at = λ (b : BenchValue). region_at b.contents c.args.region in
    let state = g.F.BenchState.state in
    sealing s (at (state c.args.flash.now)) (at (state c.write.new.self)) c.requires.stable received
    c.write.ensures.writes

pub returns-in_err-sync-clause-images : goal.returns-in_err-sync-clause-images
returns-in_err-sync-clause-images g c = λ s received.
    let at = λ (b : BenchValue). region_at b.contents c.args.region in
    let state = g.F.BenchState.state in
    seals_then_sync s (at (state c.args.flash.now)) (at (state c.write.new.self))
    (at (state c.sync.new.self))
    (sealing s (at (state c.args.flash.now)) (at (state c.write.new.self)) c.requires.stable received
    c.write.ensures.writes) c.sync.ensures.writes

pub returns-clause-images : goal.returns-clause-images
returns-clause-images g c = λ s received.
    let at = λ (b : BenchValue). region_at b.contents c.args.region in
    let state = g.F.BenchState.state in
    seals_then_sync s (at (state c.args.flash.now)) (at (state c.write.new.self))
    (at (state c.sync.new.self))
    (sealing s (at (state c.args.flash.now)) (at (state c.write.new.self)) c.requires.stable received
    c.write.ensures.writes) c.sync.ensures.writes

pub returns-clause-durable : goal.returns-clause-durable
returns-clause-durable g c = λ s received.
    let at = λ (b : BenchValue). region_at b.contents c.args.region in
    let state = g.F.BenchState.state in
    sealed s (at (state c.args.flash.now)) (at (state c.write.new.self)) (at (state c.sync.new.self))
    c.requires.stable received c.write.ensures.writes c.in_ok-write.ensures.ok
    c.sync.ensures.writes c.in_ok-sync.ensures.ok
