use Rattle.std.proofs.Common.{List, ℕ, length, ◌++◌, ◌∙◌, ap, arith}
use Rattle.std.specs.List.{flat_map}
use Rattle.cu_base.specs.Fields.{bytes_of}
use Rattle.capsule_grammar.specs.Refusals.{list_end}
use Rattle.capsule_grammar.specs.Rebuilt.{kept_items}
use Rattle.capsule_grammar.specs.Spelling.{offsets}
use Rattle.capsule_grammar.proofs.SizeLemmas.{list_grown}
use Rattle.capsule_grammar.proofs.RebuiltLemmas.{kept_before, kept_more, kept_all, in_list}
use Rattle.capsule_grammar.proofs.rebuilding.put_kept_offsets.Goals as goal

pub loop-k-preserved : goal.loop-k-preserved
loop-k-preserved c =
    let body = c.args.body.now in
    let k = c.loop-k.k in
    record {
      within = omega (
        arith,
        kept_before body k c.loop-k.here c.requires (omega arith) c.loop-k.invariant.within,
        ap length c.kept.ensures,
      );
      here = omega (
        arith,
        c.loop-k.invariant.here,
        kept_more body k
            (omega arith),
        ap length c.kept.ensures,
      );
      so_far = list_grown c.args.out.now _ _ (list_end body) (kept_items body) k c.loop-k.here
          (in_list body k (omega arith)) c.loop-k.invariant.here c.loop-k.invariant.so_far
          c.in_ok-put_u64.ensures.ok;
    }

pub returns : goal.returns
returns c =
    let body = c.args.body.now in
    c.loop-k.invariant.so_far ∙ ap
    (λ (l : List (List ℕ)). c.args.out.now ++ flat_map (bytes_of 8) (offsets (list_end body) l))
    (kept_all body c.loop-k.k (omega arith))
