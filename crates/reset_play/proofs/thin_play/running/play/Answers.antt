use Rattle.std.proofs.Common.{IsTrue, List, sym, subst}
use Rattle.std.specs.List.{list_all}
use Rattle.reference_machine.specs.declared.event.Event.{Event}
use Rattle.reference_machine.specs.Machine.{Machine}
use Rattle.reset_play.specs.Plays.{can_play}
use Rattle.reset_play.proofs.thin_play.running.play.Goals as goal

pub run_events-requires-clause-events : goal.run_events-requires-clause-events
run_events-requires-clause-events c =
    subst (λ (m : Machine). IsTrue
    (list_all (can_play m.board c.args.loaded.now.items) c.as_slice.result.now))
    (sym c.new-platform.ensures)
    (subst (λ (events : List Event). IsTrue
    (list_all (can_play c.args.board.now c.args.loaded.now.items) events))
    (sym c.as_slice.ensures) c.requires.events)
