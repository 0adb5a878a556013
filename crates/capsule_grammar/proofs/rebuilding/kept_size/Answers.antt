use Rattle.std.proofs.Common.{List, ℕ, length, ap, arith}
use Rattle.std.specs.List.{concat}
use Rattle.capsule_grammar.proofs.RebuiltLemmas.{kept_before, kept_more, kept_all}
use Rattle.capsule_grammar.proofs.rebuilding.kept_size.Goals as goal

pub loop-k-preserved : goal.loop-k-preserved
loop-k-preserved c =
    let body = c.args.body.now in
    let k = c.loop-k.k in
    record {
      within = omega (
        arith,
        kept_before body k c.loop-k.size c.requires.body
            (omega arith) c.loop-k.invariant.within,
        ap length c.kept.ensures,
      );
      so_far = omega (
        arith,
        c.loop-k.invariant.so_far,
        kept_more body k
            (omega arith),
        ap length c.kept.ensures,
      );
    }

pub returns-clause-value : goal.returns-clause-value
returns-clause-value c =
    let body = c.args.body.now in
    omega (
      arith,
      c.loop-k.invariant.so_far,
      ap (λ (l : List (List ℕ)). length (concat l)) (kept_all body c.loop-k.k (omega arith)),
    )
