use Rattle.std.proofs.Common.{◌≡◌, ◌+◌, ◌-◌, ◌^◌, ◌<◌, ◌≤◌, ◌++◌, true}
use Rattle.scatter_list.specs.Reads.{is_whole, bytes_from}
use Rattle.scatter_list.proofs.blocks.push_block.Given as goal

-- the bytes so far, all of which are there
abbrev pub invariant-loop-done : goal.invariant-loop-done
invariant-loop-done g l = record {
  so_far : l.out ≡ l.fn.out ++ bytes_from (g.M.PhysMem.segments l.memory) l.at l.done;
  whole : is_whole (g.M.PhysMem.segments l.memory) l.at l.done ≡ true;
  within : l.done ≤ l.size;
  fits : l.at + l.done < 2 ^ 64;
}

abbrev pub decreases-loop-done : goal.decreases-loop-done
decreases-loop-done g l = l.size - l.done
