use Rattle.std.proofs.Common.{◌+◌, ◌≤◌, ℕ, length, take, sym, subst}
use Rattle.bench_model.specs.declared.outside_limits.TheConstants.{SLOT_LEAD}
use Rattle.fmp_slot.specs.Held.{held, region_in}
use Rattle.fmp_slot.specs.Writing.{payload_so_far}
use Rattle.fmp_slot.proofs.Joins.{on_ok}
use Rattle.slot_forms.specs.declared.tailed.TheConstants.{TAIL}
use Rattle.slot_forms.proofs.Tails.{seals_within, durable_within}
use Rattle.slot_forms.proofs.tailed.TailedSlotForm.seal.Goals as goal

pub returns-clause-images : goal.returns-clause-images
returns-clause-images g c =
    let w = c.args.writer in
    let old = region_in w.device (g.F.BenchState.state c.args.flash.now) in
    let new = region_in w.device (g.F.BenchState.state c.seal.new.flash) in
    let s = held w.head (take w.head.dep_length w.dep) (payload_so_far w.taken old.bytes) in
    seals_within s old new c.seal.ensures.frame.long c.requires.underway.room c.seal.ensures.images

pub returns-clause-durable : goal.returns-clause-durable
returns-clause-durable g c =
    let w = c.args.writer in
    let old = region_in w.device (g.F.BenchState.state c.args.flash.now) in
    let new = region_in w.device (g.F.BenchState.state c.seal.new.flash) in
    let s = held w.head (take w.head.dep_length w.dep) (payload_so_far w.taken old.bytes) in
    let fits = subst (λ (n : ℕ). SLOT_LEAD + TAIL + w.head.length ≤ n)
    (sym c.seal.ensures.frame.long)
    c.requires.underway.room in
    on_ok c.seal.result (durable_within s new fits) c.seal.ensures.durable
