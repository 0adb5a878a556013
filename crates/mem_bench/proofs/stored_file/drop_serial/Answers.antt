use Rattle.std.proofs.lemmas.Fn.{filter_same}
use Rattle.std.proofs.Common.{not, nat_eq, rules}
use Rattle.bench_model.specs.Files.{File}
use Rattle.mem_bench.proofs.stored_file.drop_serial.Goals as goal

pub returns : goal.returns
returns c =
    filter_same _ (λ (x : File). not (nat_eq x.serial c.args.serial)) _
    (λ x b f' t. search rules) _ _ c.retain.ensures.filtered
