use Rattle.std.proofs.Common.{arith}
use Rattle.capsule_grammar.specs.Spelling.{item_bytes, first_place}
use Rattle.capsule_grammar.proofs.SizeLemmas.{item_within, list_grown}
use Rattle.capsule_grammar.proofs.Spelled.{place_next}
use Rattle.capsule_grammar.proofs.encoding.put_offsets.Goals as goal

pub overflow_add-here-in-loop-k : goal.overflow_add-here-in-loop-k
overflow_add-here-in-loop-k c =
    omega (
      arith,
      item_within c.args.body.now c.loop-k.k (omega arith),
      c.loop-k.invariant.here,
      c.item_size-here.ensures,
      c.requires.sized,
    )

pub loop-k-preserved : goal.loop-k-preserved
loop-k-preserved c =
    let v = c.args.body.now in
    let items = item_bytes v in
    record {
      here = omega (
        arith,
        item_within v c.loop-k.k (omega arith),
        place_next (first_place v) items c.loop-k.k (omega arith),
        c.loop-k.invariant.here,
        c.item_size-here.ensures,
        c.requires.sized,
      );
      so_far = list_grown c.args.out.now _ _ (first_place v) items c.loop-k.k c.loop-k.here
          (omega arith) c.loop-k.invariant.here c.loop-k.invariant.so_far
          c.in_ok-put_u64.ensures.ok;
    }
