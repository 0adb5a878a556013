use Rattle.std.proofs.Common.{rules}
use Rattle.mem_bench.proofs.FactoryLemmas.{laid_contents}
use Rattle.mem_bench.proofs.orders.MemBenchBench.lay_out.Goals as goal

pub returns-clause-ok : goal.returns-clause-ok
returns-clause-ok c = record {
  contents = laid_contents c.args.board.now _ _ _ _ _ c.in_ok-regions.ensures
      c.in_ok-devices.ensures c.new.ensures c.new-2.ensures;
  orders = search rules;
  plan = search rules;
  counts = search rules;
}
