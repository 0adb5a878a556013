-- The plan of faults of a bench: whether power is off, the power cut to come and the fault to come;
-- which call they strike, and what a call leaves of the plan.
use Rattle.std.specs.Prelude.{ℕ, ◌-◌, ◌==◌, Bool, true, false, nat_le, Option, Some, None, is_some}
use Rattle.std.specs.Prelude.{if◌then◌else◌}
use Rattle.bench_model.specs.declared.choice.Choice.{Choice}
use Rattle.bench_model.specs.declared.plan.Armed.{Armed}
use Rattle.bench_model.specs.declared.plan.Call.{Call}
use Rattle.bench_model.specs.declared.plan.Call.TheVariants.{Step, Look}
use Rattle.bench_model.specs.declared.plan.Plan.{Plan}
use Rattle.bench_model.specs.declared.plan.Strike.{Strike}
use Rattle.bench_model.specs.declared.plan.Strike.TheVariants.{Passes, Off, Cut, Fault}

-- the plan that strikes nothing
abbrev pub no_plan : Plan
no_plan = record { off = None; armed = None; failing = None }

-- power is off, since a cut and before a cycle
abbrev pub is_off : Plan → Bool
is_off p = is_some p.off

-- the fault to come strikes the next call
abbrev pub strikes_next : Option ℕ → Bool
strikes_next None = false
strikes_next (Some n) = nat_le n 1

-- the power cut where it strikes this call, else what else strikes it; a cut strikes steps alone
abbrev pub cut_or : Call → Option Armed → Strike → Strike
cut_or Look armed other = other
cut_or Step None other = other
cut_or Step (Some a) other = if a.after == 0 then Cut a.choice else other

-- what strikes a call: nothing is counted while power is off, and where a cut and a fault strike
-- one call, it is the cut
abbrev pub strike_of : Call → Plan → Strike
strike_of call p =
    if is_off p then Off else cut_or call p.armed (if strikes_next p.failing then Fault else Passes)

-- the call answers Failed
abbrev pub is_struck : Strike → Bool
is_struck Passes = false
is_struck Off = true
is_struck (Cut choice) = true
is_struck Fault = true

-- the call has no power, so it does nothing
abbrev pub has_no_power : Strike → Bool
has_no_power Passes = false
has_no_power Off = true
has_no_power (Cut choice) = false
has_no_power Fault = false

-- the choice of the cut that strikes this call
abbrev pub cut_now : Call → Option Armed → Option Choice
cut_now Look armed = None
cut_now Step None = None
cut_now Step (Some a) = if a.after == 0 then Some a.choice else None

-- the power cut to come, once this call was counted
abbrev pub armed_after : Call → Option Armed → Option Armed
armed_after Look armed = armed
armed_after Step None = None
armed_after Step (Some a) = if a.after == 0 then None else Some (record a { after = a.after - 1 })

-- the fault to come, once a call was counted
abbrev pub failing_after : Option ℕ → Option ℕ
failing_after None = None
failing_after (Some n) = if nat_le n 1 then None else Some (n - 1)

-- the plan after a call
abbrev pub after_call : Call → Plan → Plan
after_call call p =
    if is_off p then p
    else record {
      off = cut_now call p.armed;
      armed = armed_after call p.armed;
      failing = failing_after p.failing;
    }

-- the plan with a power cut to come, in place of one that is pending
abbrev pub with_arm : ℕ → Choice → Plan → Plan
with_arm after choice p = record p { armed = Some (record { after = after; choice = choice }) }

-- the plan with a fault to come, in place of one that is pending
abbrev pub with_fail : ℕ → Plan → Plan
with_fail nth p = record p { failing = Some nth }
