use Rattle.std.proofs.Common.{◌∙◌, ◌&&◌}
use Rattle.reference_machine.specs.Spent.{is_of, is_closed}
use Rattle.reset_play.proofs.SpentLemmas.{some_pass}
use Rattle.reset_play.proofs.thin_play.spent.is_file_spent.Goals as goal

pub returns : goal.returns
returns c = c.has_spent_of.ensures
    ∙ some_pass (λ e. is_of 1 c.args.serial e.key && is_closed e) c.args.list.now
