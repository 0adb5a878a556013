use Rattle.std.proofs.Common.{◌∙◌, ap, take}
use Rattle.bench_model.specs.Bench.{Contents}
use Rattle.var_log.specs.Opens.{heads}
use Rattle.var_log.proofs.OpenLemmas.{chosen_all, two_fronts}
use Rattle.var_log.proofs.opening.read_heads.Goals as goal

pub returns-clause-value : goal.returns-clause-value
returns-clause-value g c = λ told.
    let old = g.F.BenchState.state c.args.flash.now in
    let still = c.in_ok-first.ensures.frame.contents in
    let again = ap (λ (s : Contents). s.told) still ∙ told in
    chosen_all old.contents.bytes (heads c.in_ok-first.first c.in_ok-second.second) c.choose.result
    (two_fronts old.contents.bytes c.in_ok-first.first c.in_ok-second.second (c.in_ok-first.ensures.value told)
    (c.in_ok-second.ensures.value again ∙ ap (λ (s : Contents). take 16 (s.bytes 1)) still))
    c.choose.ensures.value
