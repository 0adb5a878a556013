use Rattle.std.proofs.Common.{◌≡◌}
use Rattle.scatter_list.specs.Laid.{block_list}
use Rattle.scatter_list.proofs.lay.list_bytes.Given as goal

abbrev pub invariant-loop-index : goal.invariant-loop-index
invariant-loop-index l =
    record { so_far : l.list ≡ block_list l.base l.size l.block l.index }
