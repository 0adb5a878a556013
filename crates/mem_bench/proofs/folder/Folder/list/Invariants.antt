use Rattle.std.proofs.Common.{◌≡◌, take}
use Rattle.bench_model.specs.Files.{listed}
use Rattle.mem_bench.proofs.folder.Folder.list.Given as goal

abbrev pub invariant-loop-file : goal.invariant-loop-file
invariant-loop-file l =
    record { so_far : l.listing.items ≡ listed (take l.file-index l.file-items) }
