use Rattle.std.proofs.Common.{◌≡◌, ◌≤◌, take}
use Rattle.bench_model.specs.Files.{bytes_in, others_than}
use Rattle.mem_bench.proofs.stored_file.bytes_of_others.Given as goal

abbrev pub invariant-loop-file : goal.invariant-loop-file
invariant-loop-file l = record {
  so_far : l.sum ≡ bytes_in (others_than l.name (take l.file-index l.files));
  bound : l.sum ≤ bytes_in (take l.file-index l.files);
}
