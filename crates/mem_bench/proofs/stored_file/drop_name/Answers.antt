use Rattle.std.proofs.lemmas.Fn.{filter_same}
use Rattle.std.proofs.Common.{not, rules}
use Rattle.bench_model.specs.Files.{File, is_same_name}
use Rattle.mem_bench.proofs.stored_file.drop_name.Goals as goal

pub returns-clause-others : goal.returns-clause-others
returns-clause-others c =
    filter_same _ (λ (x : File). not (is_same_name x.name c.args.name.now)) _
    (λ x b f' t. search rules) _ _ c.retain.ensures.filtered
