use Rattle.std.proofs.Common.{◌≡◌}
use Rattle.var_store.specs.Places.{sets_of}
use Rattle.var_store.proofs.NamesMade.{gone}
use Rattle.var_store.proofs.places.Places.live.Given as goal

abbrev pub invariant-loop-change : goal.invariant-loop-change
invariant-loop-change l = l.live.items ≡ sets_of (gone l.yielded)
