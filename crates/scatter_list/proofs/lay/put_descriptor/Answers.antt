use Rattle.scatter_list.proofs.LayLemmas.{descriptor_put}
use Rattle.scatter_list.proofs.lay.put_descriptor.Goals as goal

pub returns : goal.returns
returns c = record {
  ok = descriptor_put c.put_u64-2.result c.args.list.now c.put_u64.new.out c.put_u64-2.new.out
      c.args.size c.args.pointer c.in_ok-put_u64.ensures.ok c.put_u64-2.ensures.ok;
}
