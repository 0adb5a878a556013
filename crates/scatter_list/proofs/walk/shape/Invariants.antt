use Rattle.std.proofs.Common.{◌≡◌, ◌+◌, ◌*◌, ◌≤◌, ◌^◌}
use Rattle.scatter_list.specs.Going.{GoesOnTo}
use Rattle.scatter_list.specs.Walk.{address, total_of}
use Rattle.scatter_list.proofs.walk.shape.Given as goal

-- the descriptors so far, at each of which the walk goes on
abbrev pub invariant-loop-index : goal.invariant-loop-index
invariant-loop-index g l = record {
  here : l.at ≡ address (g.M.PhysMem.segments l.memory) l.root l.index;
  sum : l.total ≡ total_of (g.M.PhysMem.segments l.memory) l.root l.index;
  on : GoesOnTo (g.M.PhysMem.segments l.memory) l.root l.index;
  most : l.total ≤ l.index * 2 ^ 64;
  count : l.steps ≡ l.initial.steps + l.index;
}
