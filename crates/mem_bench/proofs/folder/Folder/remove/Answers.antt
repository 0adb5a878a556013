use Rattle.std.proofs.Common.{not, nat_eq}
use Rattle.bench_model.specs.Files.{File}
use Rattle.mem_bench.proofs.FolderLemmas.{IsFolder-filter}
use Rattle.mem_bench.proofs.folder.Folder.remove.Goals as goal

pub invariant_of-self : goal.invariant_of-self
invariant_of-self c =
    rw c.drop_serial.ensures (IsFolder-filter
    (λ (x : File). not (nat_eq x.serial c.args.serial)) _ c.self.invariant)
