use Rattle.std.proofs.Common.{◌≡◌, ◌≤◌, ◌+◌, ◌∷◌, [], ◌++◌, ◌∙◌, ap, sym, subst, arith, List, ℕ}
use Rattle.std.proofs.Common.{true}
use Rattle.bench_model.specs.Regions.{IsImage}
use Rattle.bench_model.specs.Bench.{IsRegionStable, region_at}
use Rattle.var_log.specs.declared.limits.TheConstants.{CLOSED_GATE}
use Rattle.var_log.specs.Logs.{LogValue, StandsOn, free_of, log_of}
use Rattle.var_log.specs.Moves.{IsOpening, IsOpened}
use Rattle.var_log.specs.Records.{behind_gate, RecordValue, record_with}
use Rattle.var_log.proofs.Appends.{under_way, batch_or_not, has_batch, stands_after}
use Rattle.var_log.proofs.log.VarLog.append.Goals as goal

pub returns-in-Ok-clause-images : goal.returns-in-Ok-clause-images
returns-in-Ok-clause-images g c = λ fresh.
    let l = c.self.inside in
    let log = log_of l.bank l.at l.size l.seq l.generation l.closed l.other_gate l.pending l.stale in
    let entry = c.args.entry.now in
    let old = g.F.BenchState.state c.args.flash.now in
    let new = g.F.BenchState.state c.open_behind.new.flash in
    let stands = subst (λ (x : LogValue). StandsOn x old) (sym c.self.view_is) (c.requires.stands fresh) in
    let fits : entry.size ≤ free_of log =
    omega (arith, c.requires.fits fresh, ap free_of (sym c.self.view_is)) in
    let under = under_way log old entry c.set_number.new.self c.self.invariant stands
    c.set_number.ensures.value c.behind.ensures.rule fits in
    let bytes = c.behind.ensures.value
    ∙ ap (λ (r : RecordValue). behind_gate 2 r.number r.changes ++ CLOSED_GATE ∷ [])
    c.set_number.ensures.value in
    batch_or_not log (l.seq + 1) entry.changes old under new c.open_behind.ensures.frame
    (subst (λ (b : List ℕ). IsRegionStable l.bank old → (image : List ℕ)
    → IsImage (region_at new.contents l.bank) image
    → IsOpening l.at b (old.contents.bytes l.bank) image) bytes c.open_behind.ensures.images)

pub returns-in-Ok-clause-durable : goal.returns-in-Ok-clause-durable
returns-in-Ok-clause-durable g c =
    let l = c.self.inside in
    let log = log_of l.bank l.at l.size l.seq l.generation l.closed l.other_gate l.pending l.stale in
    let entry = c.args.entry.now in
    let old = g.F.BenchState.state c.args.flash.now in
    let new = g.F.BenchState.state c.open_behind.new.flash in
    let fresh = ap (λ (x : LogValue). x.stale) (sym c.self.view_is) ∙ c.if-self.false in
    let stands = subst (λ (x : LogValue). StandsOn x old) (sym c.self.view_is) (c.requires.stands fresh) in
    let fits : entry.size ≤ free_of log =
    omega (arith, c.requires.fits fresh, ap free_of (sym c.self.view_is)) in
    let under = under_way log old entry c.set_number.new.self c.self.invariant stands
    c.set_number.ensures.value c.behind.ensures.rule fits in
    let bytes = c.behind.ensures.value
    ∙ ap (λ (r : RecordValue). behind_gate 2 r.number r.changes ++ CLOSED_GATE ∷ [])
    c.set_number.ensures.value in
    has_batch log (l.seq + 1) entry.changes old under new c.open_behind.ensures.frame
    c.in-Ok.ensures.ok
    (subst (λ (b : List ℕ). new.contents.told ≡ true
    → IsOpened l.at b (old.contents.bytes l.bank) (new.contents.bytes l.bank)) bytes
    c.in-Ok.ensures.done)

pub returns-in-Ok-clause-stands : goal.returns-in-Ok-clause-stands
returns-in-Ok-clause-stands g c =
    let l = c.self.inside in
    let log = log_of l.bank l.at l.size l.seq l.generation l.closed l.other_gate l.pending l.stale in
    let entry = c.args.entry.now in
    let old = g.F.BenchState.state c.args.flash.now in
    let new = g.F.BenchState.state c.open_behind.new.flash in
    let fresh = ap (λ (x : LogValue). x.stale) (sym c.self.view_is) ∙ c.if-self.false in
    let stands = subst (λ (x : LogValue). StandsOn x old) (sym c.self.view_is) (c.requires.stands fresh) in
    let fits : entry.size ≤ free_of log =
    omega (arith, c.requires.fits fresh, ap free_of (sym c.self.view_is)) in
    let under = under_way log old entry c.set_number.new.self c.self.invariant stands
    c.set_number.ensures.value c.behind.ensures.rule fits in
    let bytes = c.behind.ensures.value
    ∙ ap (λ (r : RecordValue). behind_gate 2 r.number r.changes ++ CLOSED_GATE ∷ [])
    c.set_number.ensures.value in
    let size = c.size.ensures.value
    ∙ ap (λ (r : RecordValue). r.size) (c.behind.ensures.rule.is
    ∙ ap (λ (r : RecordValue). record_with r.number r.changes) c.set_number.ensures.value) in
    stands_after log (l.seq + 1) entry.changes old under new c.size.result size
    c.open_behind.ensures.frame c.in-Ok.ensures.ok c.open_behind.ensures.long
    (subst (λ (b : List ℕ). new.contents.told ≡ true
    → IsOpened l.at b (old.contents.bytes l.bank) (new.contents.bytes l.bank)) bytes
    c.in-Ok.ensures.done)

pub returns-in-Err-clause-images : goal.returns-in-Err-clause-images
returns-in-Err-clause-images g c = λ fresh.
    let l = c.self.inside in
    let log = log_of l.bank l.at l.size l.seq l.generation l.closed l.other_gate l.pending l.stale in
    let entry = c.args.entry.now in
    let old = g.F.BenchState.state c.args.flash.now in
    let new = g.F.BenchState.state c.open_behind.new.flash in
    let stands = subst (λ (x : LogValue). StandsOn x old) (sym c.self.view_is) (c.requires.stands fresh) in
    let fits : entry.size ≤ free_of log =
    omega (arith, c.requires.fits fresh, ap free_of (sym c.self.view_is)) in
    let under = under_way log old entry c.set_number.new.self c.self.invariant stands
    c.set_number.ensures.value c.behind.ensures.rule fits in
    let bytes = c.behind.ensures.value
    ∙ ap (λ (r : RecordValue). behind_gate 2 r.number r.changes ++ CLOSED_GATE ∷ [])
    c.set_number.ensures.value in
    batch_or_not log (l.seq + 1) entry.changes old under new c.open_behind.ensures.frame
    (subst (λ (b : List ℕ). IsRegionStable l.bank old → (image : List ℕ)
    → IsImage (region_at new.contents l.bank) image
    → IsOpening l.at b (old.contents.bytes l.bank) image) bytes c.open_behind.ensures.images)
