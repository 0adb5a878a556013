use Rattle.mem_bench.specs.State.{state_of}
use Rattle.var_store.specs.Stores.{Stands}
use Rattle.measures.proofs.commits.commit_all.Given as goal

abbrev pub invariant-loop-number : goal.invariant-loop-number
invariant-loop-number l = Stands l.store (state_of l.bench)
