use Rattle.std.proofs.Common.{◌≡◌}
use Rattle.var_log.specs.Changes.{after, no_variables}
use Rattle.var_store.specs.Places.{HasSamePlaces}
use Rattle.var_store.proofs.places.Places.exchange_all.Given as goal

abbrev pub invariant-loop-change : goal.invariant-loop-change
invariant-loop-change l =
    (goal.iterator-loop-change).can_next l.change-iterator
    × (goal.iterator-loop-change).is_finite l.change-iterator
    × HasSamePlaces l.initial.self l.self
    × (after no_variables l.self ≡ after (after no_variables l.initial.self) l.yielded)
