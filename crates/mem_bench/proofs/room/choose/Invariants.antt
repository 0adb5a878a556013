use Rattle.std.proofs.Common.{◌≡◌, ℕ, ◌*◌, ◌<◌, ◌≤◌, get_or, length, if◌then◌else◌}
use Rattle.mem_bench.specs.declared.room.TheConstants.{BLOCK}
use Rattle.mem_bench.specs.Regions.{byte_after}
use Rattle.mem_bench.specs.Rooms.{mark_at, synced_at}
use Rattle.mem_bench.proofs.room.choose.Given as goal

abbrev pub invariant-loop-block : goal.invariant-loop-block
invariant-loop-block l = record {
  long : length l.bytes ≡ length l.initial.bytes;
  chosen : (k : ℕ) → k < l.block * BLOCK → get_or l.bytes k 0
      ≡ (if mark_at l.last.states.items l.last.marks.items k
      then byte_after l.choice k
      (synced_at l.last.states.items l.last.saved.items l.initial.bytes k)
      (get_or l.initial.bytes k 0) else get_or l.initial.bytes k 0);
  still : (k : ℕ) → l.block * BLOCK ≤ k → get_or l.bytes k 0 ≡ get_or l.initial.bytes k 0;
}
