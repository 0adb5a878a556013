use Rattle.std.proofs.lemmas.Fn.{filter_same}
use Rattle.std.proofs.Common.{not, rules}
use Rattle.bench_model.specs.Files.{File}
use Rattle.bench_model.specs.Files.{is_same_name}
use Rattle.reset_play.proofs.thin_play.platform.forget.Goals as goal

pub returns : goal.returns
returns c = filter_same _ (λ (x : File). not (is_same_name x.name c.args.name.now)) _
    (λ x b f' t. search rules) _ _ c.retain.ensures.filtered
