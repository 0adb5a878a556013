use Rattle.std.proofs.Common.{◌∙◌, ap, subst, arith}
use Rattle.bench_model.specs.Bench.{Contents, region_at}
use Rattle.bench_model.specs.Regions.{Writes}
use Rattle.fmp_slot.proofs.SlotImages.{unsealing, keeps_then_sync, place_by_read}
use Rattle.fmp_slot.proofs.moves.unseal.Goals as goal

pub write-requires-clause-begun : goal.write-requires-clause-begun
write-requires-clause-begun g c = λ d same.
    ap (λ (s : Contents). s.rest.open_device) c.read.ensures.frame.contents ∙ c.requires.begun d same

pub returns-in_err-write-clause-images : goal.returns-in_err-write-clause-images
returns-in_err-write-clause-images g c =
    let at = λ (s : Contents). region_at s c.args.region in
    let state = g.F.BenchState.state in
    let old = (state c.args.flash.now).contents in
    let new = (state c.write.new.self).contents in
    let writes = subst (λ (s : Contents). Writes c.place_to_blank.result 1 (at s) (at new))
    c.read.ensures.frame.contents c.write.ensures.writes in
    unsealing c.place_to_blank.result (at old) (at new) c.requires.stable
    (λ told. place_by_read _ _ c.read.new.out (omega arith) (c.in_ok-read.ensures.reads told)
    c.place_to_blank.ensures)
    writes

pub returns-in_err-sync-clause-images : goal.returns-in_err-sync-clause-images
returns-in_err-sync-clause-images g c =
    let at = λ (s : Contents). region_at s c.args.region in
    let state = g.F.BenchState.state in
    let old = (state c.args.flash.now).contents in
    let new = (state c.write.new.self).contents in
    let writes = subst (λ (s : Contents). Writes c.place_to_blank.result 1 (at s) (at new))
    c.read.ensures.frame.contents c.write.ensures.writes in
    keeps_then_sync (at old) (at new) (at (state c.sync.new.self).contents)
    (unsealing c.place_to_blank.result (at old) (at new) c.requires.stable
    (λ told. place_by_read _ _ c.read.new.out (omega arith) (c.in_ok-read.ensures.reads told)
    c.place_to_blank.ensures)
    writes) c.sync.ensures.writes

pub returns-clause-images : goal.returns-clause-images
returns-clause-images g c =
    let at = λ (s : Contents). region_at s c.args.region in
    let state = g.F.BenchState.state in
    let old = (state c.args.flash.now).contents in
    let new = (state c.write.new.self).contents in
    let writes = subst (λ (s : Contents). Writes c.place_to_blank.result 1 (at s) (at new))
    c.read.ensures.frame.contents c.write.ensures.writes in
    keeps_then_sync (at old) (at new) (at (state c.sync.new.self).contents)
    (unsealing c.place_to_blank.result (at old) (at new) c.requires.stable
    (λ told. place_by_read _ _ c.read.new.out (omega arith) (c.in_ok-read.ensures.reads told)
    c.place_to_blank.ensures)
    writes) c.sync.ensures.writes
