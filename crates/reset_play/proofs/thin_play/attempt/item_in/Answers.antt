use Rattle.reset_play.specs.ThinValues.{item_of}
use Rattle.reset_play.proofs.ThinLemmas.{said_small}
use Rattle.reset_play.proofs.thin_play.attempt.item_in.Goals as goal

pub returns-clause-bound : goal.returns-clause-bound
returns-clause-bound c =
    said_small c.args.bytes.now (item_of c.in-Some.item) c.requires c.in-Some.ensures
