use Rattle.std.proofs.Common.{◌≡◌, ◌-◌, ◌^◌, min, take}
use Rattle.bench_model.specs.Files.{bytes_in, others_than}
use Rattle.reset_play.proofs.thin_play.folder.bytes_of_others.Given as goal

-- the bytes of the files before this one
abbrev pub invariant-loop-file : goal.invariant-loop-file
invariant-loop-file l =
    l.sum ≡ min (bytes_in (others_than l.name (take l.file-index l.files))) (2 ^ 64 - 1)
