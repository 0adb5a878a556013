use Rattle.std.proofs.Common.{◌≡◌, ◌+◌, ◌*◌, ◌-◌, ◌≤◌, ◌<◌, length, take, true}
use Rattle.bench_model.specs.Bench.{ChangesCounts}
use Rattle.cu_base.specs.Fields.{field}
use Rattle.var_log.proofs.opening.read_pieces.Given as goal

abbrev pub invariant-loop-read : goal.invariant-loop-read
invariant-loop-read g l =
    let old = g.F.BenchState.state l.fn.flash in
    let now = g.F.BenchState.state l.flash in
    ChangesCounts old now
    × (length l.out ≡ length l.fn.out)
    × (l.read ≤ length l.out)
    × (old.contents.told ≡ true
    → take l.read l.out ≡ field (old.contents.bytes l.bank) l.at l.read)
    × (now.counts.moves ≡ old.counts.moves)
    × (old.counts.flash_faults ≤ now.counts.flash_faults)
    × (l.read < length l.out → now.counts.looks * 65536 ≤ old.counts.looks * 65536 + l.read)
    × (now.counts.looks * 65536 ≤ old.counts.looks * 65536 + l.read + 65535)

abbrev pub decreases-loop-read : goal.decreases-loop-read
decreases-loop-read g l = length l.out - l.read
