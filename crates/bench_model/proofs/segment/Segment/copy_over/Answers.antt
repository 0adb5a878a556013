use Rattle.std.proofs.Common.{◌≡◌, length, ap, arith, rules}
use Rattle.std.proofs.lemmas.List.{places}
use Rattle.bench_model.proofs.OverlayLemmas.{overlays}
use Rattle.bench_model.proofs.segment.Segment.copy_over.Goals as goal

pub returns-then-start-end-clause-value : goal.returns-then-start-end-clause-value
returns-then-start-end-clause-value c =
    let long : length c.as_slice-bytes.result.now ≡ length c.args.self.now.bytes =
    ap length c.as_slice-bytes.ensures in
    overlays c.args.self.now c.args.at c.max-start.result c.min-end.result c.args.out.now
    c.copy_from_slice.new.self (omega arith) (omega arith) c.if-start-end.true (omega arith)
    (omega (arith, long)) (grind arith) (grind (arith, long)) (grind (arith, long, places)) (λ i below. search (rules, places))
