use Rattle.std.proofs.Common.{◌≡◌, length, find}
use Rattle.stored_vars.specs.Holds.{is_claimed, open_device_of}
use Rattle.dev_claims.proofs.Found.{from}
use Rattle.var_store.specs.Stores.{variables_of}
use Rattle.dev_claims.proofs.reading.open_claim.Given as goal

-- the first device with an open claim is that among those that are left
abbrev pub invariant-loop-k : goal.invariant-loop-k
invariant-loop-k l =
    open_device_of l.board (variables_of l.store)
    ≡ find (is_claimed (variables_of l.store)) (from l.k (length l.board.devices))
