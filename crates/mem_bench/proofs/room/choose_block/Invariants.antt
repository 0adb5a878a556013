use Rattle.std.proofs.Common.{◌≡◌, ℕ, ◌*◌, ◌<◌, ◌≤◌, get_or, if◌then◌else◌}
use Rattle.mem_bench.specs.declared.room.TheConstants.{BLOCK}
use Rattle.mem_bench.specs.Regions.{byte_after}
use Rattle.mem_bench.specs.Rooms.{mark_at, synced_at}
use Rattle.mem_bench.proofs.room.choose_block.Given as goal

abbrev pub invariant-loop-k : goal.invariant-loop-k
invariant-loop-k l = record {
  chosen : (j : ℕ) → l.initial.block * BLOCK ≤ j → j < l.k → get_or l.bytes j 0
      ≡ (if mark_at l.last.states.items l.last.marks.items j
      then byte_after l.choice j
      (synced_at l.last.states.items l.last.saved.items l.initial.bytes j)
      (get_or l.initial.bytes j 0) else get_or l.initial.bytes j 0);
  before : (j : ℕ) → j < l.initial.block * BLOCK → get_or l.bytes j 0 ≡ get_or l.initial.bytes j 0;
  still : (j : ℕ) → l.k ≤ j → get_or l.bytes j 0 ≡ get_or l.initial.bytes j 0;
}
