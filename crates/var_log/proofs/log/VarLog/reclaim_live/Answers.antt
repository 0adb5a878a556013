use Rattle.std.proofs.Common.{◌≡◌, ◌+◌, ◌-◌, ◌∙◌, sym, subst, arith, List, ℕ, true}
use Rattle.bench_model.specs.Regions.{IsImage}
use Rattle.bench_model.specs.Bench.{IsRegionStable, region_at}
use Rattle.var_log.specs.Banks.{reclaimed}
use Rattle.var_log.specs.Logs.{LogValue, LiesOn, log_of}
use Rattle.var_log.specs.Moves.{IsReclaiming, Reclaims}
use Rattle.var_log.proofs.Spelled.{are_changes}
use Rattle.var_log.proofs.Reclaims.{under_reclaim, unmoved, variables_kept, stands_reclaimed}
use Rattle.var_log.proofs.Sizes.{few_changes}
use Rattle.var_log.proofs.log.VarLog.reclaim_live.Goals as goal

pub returns-in-Ok-reclaim-clause-images : goal.returns-in-Ok-reclaim-clause-images
returns-in-Ok-reclaim-clause-images g c =
    let l = c.self.inside in
    let log = log_of l.bank l.at l.size l.seq l.generation l.closed l.other_gate l.pending l.stale in
    let live = c.args.live.now in
    let old = g.F.BenchState.state c.args.flash.now in
    let new = g.F.BenchState.state c.reclaim.new.flash in
    let under = under_reclaim log live old c.self.invariant
    (subst (λ (x : LogValue). LiesOn x old) (sym c.self.view_is) c.requires.lies) c.requires.live
    (omega arith) (omega arith) c.in-Some.n c.in-Some.ensures.value.1 (omega arith) (omega arith)
    (are_changes live c.requires.limits c.in-Some.ensures.sizes) c.in-Some.ensures.sizes in
    let bytes : c.deref.result.now ≡ reclaimed (l.generation + 1) l.seq live =
    c.deref.ensures.value ∙ c.in-Ok.ensures.value in
    variables_kept log live old under new c.closing_place.result c.closing_place.ensures c.reclaim.ensures.frame
    (subst (λ (b : List ℕ). IsRegionStable (1 - l.bank) old → (image : List ℕ)
    → IsImage (region_at new.contents (1 - l.bank)) image
    → IsReclaiming c.closing_place.result b (old.contents.bytes (1 - l.bank)) image) bytes
    c.reclaim.ensures.images)

pub returns-in-Ok-reclaim-clause-stands : goal.returns-in-Ok-reclaim-clause-stands
returns-in-Ok-reclaim-clause-stands g c =
    let l = c.self.inside in
    let log = log_of l.bank l.at l.size l.seq l.generation l.closed l.other_gate l.pending l.stale in
    let live = c.args.live.now in
    let old = g.F.BenchState.state c.args.flash.now in
    let new = g.F.BenchState.state c.reclaim.new.flash in
    let under = under_reclaim log live old c.self.invariant
    (subst (λ (x : LogValue). LiesOn x old) (sym c.self.view_is) c.requires.lies) c.requires.live
    (omega arith) (omega arith) c.in-Some.n c.in-Some.ensures.value.1 (omega arith) (omega arith)
    (are_changes live c.requires.limits c.in-Some.ensures.sizes) c.in-Some.ensures.sizes in
    let bytes : c.deref.result.now ≡ reclaimed (l.generation + 1) l.seq live =
    c.deref.ensures.value ∙ c.in-Ok.ensures.value in
    stands_reclaimed log live old under new c.closing_place.result c.in-Some.n c.in-Some.ensures.value.1
    c.reclaim.ensures.frame c.in-Ok-reclaim.ensures.ok c.reclaim.ensures.long
    (subst (λ (b : List ℕ). new.contents.told ≡ true
    → Reclaims c.closing_place.result b (old.contents.bytes (1 - l.bank)) (new.contents.bytes (1 - l.bank)))
    bytes c.in-Ok-reclaim.ensures.done)

pub returns-clause-images : goal.returns-clause-images
returns-clause-images g c =
    let l = c.self.inside in
    let log = log_of l.bank l.at l.size l.seq l.generation l.closed l.other_gate l.pending l.stale in
    let live = c.args.live.now in
    let old = g.F.BenchState.state c.args.flash.now in
    let new = g.F.BenchState.state c.reclaim.new.flash in
    let under = under_reclaim log live old c.self.invariant
    (subst (λ (x : LogValue). LiesOn x old) (sym c.self.view_is) c.requires.lies) c.requires.live
    (omega arith) (omega arith) c.in-Some.n c.in-Some.ensures.value.1 (omega arith) (omega arith)
    (are_changes live c.requires.limits c.in-Some.ensures.sizes) c.in-Some.ensures.sizes in
    let bytes : c.deref.result.now ≡ reclaimed (l.generation + 1) l.seq live =
    c.deref.ensures.value ∙ c.in-Ok.ensures.value in
    variables_kept log live old under new c.closing_place.result c.closing_place.ensures c.reclaim.ensures.frame
    (subst (λ (b : List ℕ). IsRegionStable (1 - l.bank) old → (image : List ℕ)
    → IsImage (region_at new.contents (1 - l.bank)) image
    → IsReclaiming c.closing_place.result b (old.contents.bytes (1 - l.bank)) image) bytes
    c.reclaim.ensures.images)

pub returns-then-self-clause-images : goal.returns-then-self-clause-images
returns-then-self-clause-images g c =
    unmoved c.args.self.now (g.F.BenchState.state c.args.flash.now) c.requires.lies

pub returns-in_default-clause-images : goal.returns-in_default-clause-images
returns-in_default-clause-images g c =
    unmoved c.args.self.now (g.F.BenchState.state c.args.flash.now) c.requires.lies

pub returns-then-self-n-clause-images : goal.returns-then-self-n-clause-images
returns-then-self-n-clause-images g c =
    unmoved c.args.self.now (g.F.BenchState.state c.args.flash.now) c.requires.lies

pub returns-in-Err-clause-images : goal.returns-in-Err-clause-images
returns-in-Err-clause-images g c =
    unmoved c.args.self.now (g.F.BenchState.state c.args.flash.now) c.requires.lies

pub bank_bytes-requires-clause-count : goal.bank_bytes-requires-clause-count
bank_bytes-requires-clause-count g c =
    omega (arith, few_changes c.args.live.now c.in-Some.ensures.sizes, c.in-Some.ensures.value.1)
