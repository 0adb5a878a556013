use Rattle.std.proofs.Common.{◌≡◌, filter_map}
use Rattle.std.specs.List.{range_with_len}
use Rattle.stored_vars.specs.Holds.{staged_at}
use Rattle.var_store.specs.Stores.{variables_of}
use Rattle.update_inbox.proofs.waiting.pairs_of.Given as goal

-- the deliveries of the variables before this one
abbrev pub invariant-loop-number : goal.invariant-loop-number
invariant-loop-number l =
    l.pairs.items ≡ filter_map (staged_at (variables_of l.store)) (range_with_len 0 l.number)
