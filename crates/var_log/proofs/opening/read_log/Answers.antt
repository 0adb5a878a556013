use Rattle.std.proofs.Common.{◌≡◌, ◌∙◌, ◌+◌, ap, sym, subst, length, drop, List, ℕ, Option}
use Rattle.bench_model.specs.Bench.{Contents}
use Rattle.var_log.specs.declared.choosing.Chosen.{Chosen}
use Rattle.var_log.specs.Opens.{IsReadFrom, IsChosen}
use Rattle.var_log.proofs.OpenLemmas.{found_is_read, found_limits, no_store}
use Rattle.var_log.proofs.opening.read_log.Goals as goal

pub returns-in-Ok-None-clause-found : goal.returns-in-Ok-None-clause-found
returns-in-Ok-None-clause-found g c = λ told.
    let banks = (g.F.BenchState.state c.args.flash.now).contents.bytes in
    no_store banks (subst (λ (o : Option Chosen). IsChosen banks o) c.in-Ok-None.field-0-is
    (c.in-Ok-None.ensures.value told))

pub returns-in-Ok-clause-limits : goal.returns-in-Ok-clause-limits
returns-in-Ok-clause-limits g c =
    found_limits c.in-Ok-Some.chosen c.deref.result.now c.in-Ok.found.log c.in-Ok.found.live.items
    c.in-Ok.ensures.value

pub returns-in-Ok-clause-found : goal.returns-in-Ok-clause-found
returns-in-Ok-clause-found g c = λ told.
    let s0 = g.F.BenchState.state c.args.flash.now in
    let banks = s0.contents.bytes in
    let chosen = c.in-Ok-Some.chosen in
    let still = c.in-Ok-Some.ensures.frame.contents in
    let records = c.deref.result.now in
    let are : records ≡ drop 16 (banks chosen.bank) =
    c.deref.ensures.value ∙ c.in_ok-records.ensures.value (ap (λ (x : Contents). x.told) still ∙ told)
    ∙ ap (λ (x : Contents). drop 16 (x.bytes chosen.bank)) still in
    let long : 16 + length records ≡ length (banks chosen.bank) =
    ap (λ (l : List ℕ). 16 + length l) c.deref.ensures.value ∙ c.in_ok-records.ensures.long
    ∙ ap (λ (x : Contents). length (x.bytes chosen.bank)) still in
    subst (λ (f : ℕ). IsReadFrom banks f c.in-Ok.found.log c.in-Ok.found.live.items) (sym c.in-Ok.ensures.format)
    (found_is_read banks chosen records c.in-Ok.found.log c.in-Ok.found.live.items
    (subst (λ (o : Option Chosen). IsChosen banks o) c.in-Ok-Some.field-0-is
    (c.in-Ok-Some.ensures.value told)) are long c.in-Ok.ensures.value)
