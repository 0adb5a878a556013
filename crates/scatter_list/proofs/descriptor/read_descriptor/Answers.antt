use Rattle.std.proofs.Common.{length}
use Rattle.scatter_list.proofs.ReadLemmas.{not_whole, descriptor_there}
use Rattle.scatter_list.proofs.descriptor.read_descriptor.Goals as goal

pub returns-then-not-read-clause-refused : goal.returns-then-not-read-clause-refused
returns-then-not-read-clause-refused g c = λ _.
    not_whole (g.M.PhysMem.segments c.args.memory.now) c.args.at 16 (length c.read.new.out)
    c.read.auto.out c.if-not-read.ensures.refused

pub returns-clause-value : goal.returns-clause-value
returns-clause-value g c =
    descriptor_there (g.M.PhysMem.segments c.args.memory.now) c.args.at c.read.new.out _
    c.read.auto.out c.if-not-read.ensures.reads c.u64_at.ensures c.u64_at-2.ensures
