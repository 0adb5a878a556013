-- When a call of the outside may fail: only where its count of faults rose in that call.
use Rattle.std.specs.Prelude.{ℕ, ◌+◌, ◌-◌, ◌≤◌, ◌^◌, min, Result, OnErr, IsErrOf}

-- a count rose by at least this, or it stands at its last value
abbrev pub RoseBy : ℕ → ℕ → ℕ → Type 0
RoseBy n before now = min (before + n) (2 ^ 64 - 1) ≤ now

-- a count rose by at least one, or it stands at its last value
abbrev pub Rose : ℕ → ℕ → Type 0
Rose = RoseBy 1

-- the count never falls, and it rose where the call failed
pub record HasCause {T E : Type 0} (before now : ℕ) (result : Result T E) : Type 0 where
  pub later : before ≤ now
  pub failed : OnErr result (Rose before now)

-- the count never falls, and it rose where the call answered this fault
pub record HasCauseOf {T E : Type 0} (fault : E) (before now : ℕ)
    (result : Result T E) : Type 0 where
  pub later : before ≤ now
  pub failed : IsErrOf result fault → Rose before now
