use Rattle.recipe_files.proofs.IndexLemmas.{adds}
use Rattle.recipe_files.proofs.index.add.Goals as goal

pub returns-in-Ok : goal.returns-in-Ok
returns-in-Ok c =
    adds c.args.index.now c.insert.new.self c.args.pair.now c.as_str.result c.as_slice.result
    c.as_str.ensures c.as_slice.ensures
    c.in-Ok.ensures.updates
