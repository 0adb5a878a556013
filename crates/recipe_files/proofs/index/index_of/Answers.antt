use Rattle.std.proofs.Common.{◌-◌, arith}
use Rattle.recipe_files.proofs.IndexLemmas.{finds_all, finds_more}
use Rattle.recipe_files.proofs.index.index_of.Goals as goal

pub loop-k-preserved : goal.loop-k-preserved
loop-k-preserved c = record {
  same = c.loop-k.invariant.same;
  within = omega arith;
  finds = finds_more c.loop-k.index c.add.new.index c.as_slice-pairs.result.now
      c.args.loaded.now.items (c.loop-k.k - 1) c.loop-k.k c.index-pairs-k.result
      c.loop-k.invariant.same (omega arith) (omega arith) c.index-pairs-k.is c.in_ok-add.ensures
      c.loop-k.invariant.finds;
}

pub returns : goal.returns
returns c =
    finds_all c.loop-k.index c.args.loaded.now.items c.loop-k.k (omega arith)
    c.loop-k.invariant.finds
