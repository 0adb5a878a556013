use Rattle.std.proofs.Common.{◌≡◌, take}
use Rattle.var_log.specs.Changes.{after, no_variables}
use Rattle.var_store.proofs.store.places_of.Given as goal

abbrev pub invariant-loop-change : goal.invariant-loop-change
invariant-loop-change l = after no_variables l.places ≡ after no_variables (take l.change-index l.live)
