use Rattle.std.proofs.Common.{IsTrue, subst}
use Rattle.reference_machine.specs.declared.event.Event.{Event}
use Rattle.reset_play.specs.Plays.{can_play}
use Rattle.reset_play.proofs.thin_play.running.answer_of.Goals as goal

pub drop_input-requires : goal.drop_input-requires
drop_input-requires c =
    subst (λ (e : Event). IsTrue
    (can_play c.args.platform.now.board c.args.loaded.now.items e)) c.in-Drop.is c.requires.played
