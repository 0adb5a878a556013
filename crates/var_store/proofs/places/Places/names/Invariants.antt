use Rattle.std.proofs.Common.{◌≡◌, map}
use Rattle.var_store.specs.Places.{sets_of}
use Rattle.var_store.proofs.NamesMade.{gone, name_pair}
use Rattle.var_store.proofs.places.Places.names.Given as goal

abbrev pub invariant-loop-change : goal.invariant-loop-change
invariant-loop-change l = l.names.items ≡ map name_pair (sets_of (gone l.yielded))
