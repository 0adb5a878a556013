use Rattle.std.proofs.Common.{◌≡◌, ℕ, ◌<◌, true, get_or}
use Rattle.var_log.specs.declared.change.Change.{Change}
use Rattle.var_log.specs.Changes.{after, guid_of, has_key, name_of, no_variables}
use Rattle.var_store.specs.Places.{KeepsPlaces}
use Rattle.var_store.proofs.places.Places.make_places.Given as goal

abbrev pub invariant-loop-change : goal.invariant-loop-change
invariant-loop-change l =
    ((k : ℕ) (d : Change) → k < l.change-index
    → has_key (guid_of (get_or l.changes k d)) (name_of (get_or l.changes k d)) l.self ≡ true)
    × KeepsPlaces l.initial.self l.self
    × (after no_variables l.self ≡ after no_variables l.initial.self)
