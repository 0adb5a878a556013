use Rattle.var_store.specs.Keys.{bytes_of_key}
use Rattle.var_store.proofs.Entries.{none_kept}
use Rattle.var_store.proofs.places.Places.new.Goals as goal

pub invariant_of-result : goal.invariant_of-result
invariant_of-result c = none_kept bytes_of_key c.new.result.entries c.new.ensures.empty
