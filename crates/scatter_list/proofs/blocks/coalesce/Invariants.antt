use Rattle.std.proofs.Common.{◌≡◌, None}
use Rattle.scatter_list.specs.Coalesced.{blocks, first_lacking}
use Rattle.scatter_list.specs.Walk.{address}
use Rattle.scatter_list.proofs.blocks.coalesce.Given as goal

-- the blocks so far, all of which are there
abbrev pub invariant-loop-index : goal.invariant-loop-index
invariant-loop-index g l = record {
  here : l.at ≡ address (g.M.PhysMem.segments l.memory) l.shape.root l._index;
  so_far : l.out ≡ blocks (g.M.PhysMem.segments l.memory) l.shape.root l._index;
  none : first_lacking (g.M.PhysMem.segments l.memory) l.shape.root l._index ≡ None;
}
