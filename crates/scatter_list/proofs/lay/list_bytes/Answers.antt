use Rattle.std.proofs.Common.{sym, ◌∙◌, arith}
use Rattle.scatter_list.proofs.LayLemmas.{no_list, list_more, list_whole}
use Rattle.scatter_list.proofs.lay.list_bytes.Goals as goal

pub loop-index-init : goal.loop-index-init
loop-index-init c = record {
  so_far = c.new-list.ensures ∙ sym (no_list c.args.base c.args.size c.args.block);
}

pub loop-index-preserved : goal.loop-index-preserved
loop-index-preserved c = record {
  so_far = list_more c.args.base c.args.size c.args.block c.loop-index.index c.min.result
      c.loop-index.list c.put_descriptor.new.list c.min.ensures c.loop-index.invariant.so_far
      c.in_ok-put_descriptor.ensures.ok;
}

pub returns : goal.returns
returns c = record {
  value = list_whole c.args.base c.args.size c.args.block c.loop-index.index c.loop-index.list
      c.put_descriptor-2.new.list (omega arith) c.loop-index.invariant.so_far
      c.in_ok-put_descriptor-2.ensures.ok;
}
