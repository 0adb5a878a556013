use Rattle.std.proofs.Common.{◌∙◌}
use Rattle.reset_play.specs.ThinValues.{item_of}
use Rattle.reset_play.proofs.ThinLemmas.{thin_on, not_thin_on}
use Rattle.reset_play.proofs.thin_play.delivery.is_thin_on.Goals as goal

pub returns-in-Some : goal.returns-in-Some
returns-in-Some c =
    (rw c.devices.ensures.value at c.has_target.ensures)
    ∙ thin_on c.args.board.now c.args.bytes.now (item_of c.in-Some.item) c.in-Some.ensures

pub returns-in-None : goal.returns-in-None
returns-in-None c = not_thin_on c.args.board.now c.args.bytes.now c.in-None.ensures
