use Rattle.std.proofs.Common.{◌≡◌, filter, map}
use Rattle.std.specs.List.{range_with_len}
use Rattle.dev_claims.specs.Batches.{keeps_serial}
use Rattle.stored_vars.specs.Edits.{delete_of}
use Rattle.stored_vars.specs.declared.variable.StoredVar.TheVariants.{Stage}
use Rattle.var_store.specs.Stores.{variables_of}
use Rattle.cap_boot.proofs.step_batches.unstage_batch.Given as goal

-- the deletes of the variables before this one
abbrev pub invariant-loop-number : goal.invariant-loop-number
invariant-loop-number l =
    l.batch.items ≡ map (λ k. delete_of (Stage k))
    (filter (keeps_serial (variables_of l.store) l.serial) (range_with_len 0 l.number))
