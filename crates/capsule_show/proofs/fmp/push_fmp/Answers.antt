use Rattle.std.proofs.Common.{ℕ}
use Rattle.capsule_grammar.specs.Reading.{fmp_of}
use Rattle.capsule_show.proofs.Growing.{fmp_told, on_ok}
use Rattle.capsule_show.proofs.fmp.push_fmp.Goals as goal

pub returns : goal.returns
returns c = on_ok c.push_images.result
    (fmp_told (fmp_of c.args.body.now) c.args.out.now _ _ _ c.in_ok-push_counts.ensures
    c.in_ok-push_drivers.ensures) c.push_images.ensures
