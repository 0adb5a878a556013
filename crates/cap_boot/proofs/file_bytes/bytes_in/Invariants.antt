use Rattle.std.proofs.Common.{◌≡◌, ◌≤◌, ◌-◌, take, true}
use Rattle.bench_model.specs.Bench.{ChangesCounts}
use Rattle.bench_model.specs.Files.{file_bytes}
use Rattle.cap_boot.proofs.file_bytes.bytes_in.Given as goal

abbrev pub invariant-loop-at : goal.invariant-loop-at
invariant-loop-at g l =
    let state = g.V.BenchState.state in
    let old = state l.initial.volume in
    let now = state l.volume in
    record {
      frame : ChangesCounts old now;
      faults : old.counts.flash_faults ≤ now.counts.flash_faults;
      within : l.at ≤ l.file.size;
      so_far : old.contents.told ≡ true → l.bytes
          ≡ take l.at (file_bytes l.file.serial old.contents.rest.folder.files);
    }

abbrev pub decreases-loop-at : goal.decreases-loop-at
decreases-loop-at g l = l.file.size - l.at
