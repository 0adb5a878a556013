use Rattle.std.proofs.Common.{◌∙◌, ap}
use Rattle.bench_model.specs.Bench.{BenchValue, Contents}
use Rattle.slot_tests.proofs.slots.begun.Goals as goal

pub returns-clause-stable : goal.returns-clause-stable
returns-clause-stable g c = λ told. record {
  clean = λ k.
      ap (λ (s : Contents). s.dirty 2 k)
      (ap (λ (b : BenchValue). b.contents) c.arm.ensures.frame ∙ c.in_ok-begin.ensures.ok.contents)
      ∙ ap (λ (s : Contents). s.dirty 2 k)
      (ap (λ (b : BenchValue). b.contents) c.ready.ensures.frame ∙ c.in_ok-lay_out.ensures.ok.contents);
}
