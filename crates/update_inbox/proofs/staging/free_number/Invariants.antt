use Rattle.std.proofs.Common.{◌≡◌, ℕ, ◌<◌, false}
use Rattle.std.specs.Prelude.{is_none}
use Rattle.stored_vars.specs.Holds.{staged_at}
use Rattle.var_store.specs.Stores.{variables_of}
use Rattle.update_inbox.proofs.staging.free_number.Given as goal

abbrev pub invariant-loop-number : goal.invariant-loop-number
invariant-loop-number l =
    (j : ℕ) → j < l.number → is_none (staged_at (variables_of l.store) j) ≡ false
