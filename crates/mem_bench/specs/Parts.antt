-- The tickets of a device, and what a bench in memory counts.
use Rattle.std.specs.Prelude.{◌≡◌, ◌≤◌, IsTrue, ℕ, Bool, true, false, List, []}
use Rattle.std.specs.Prelude.{if◌then◌else◌}
use Rattle.cu_base.specs.Causes.{Rose}
use Rattle.cu_base.specs.declared.ticket.Ticket.{Ticket}
use Rattle.bench_model.specs.declared.plan.Strike.{Strike}
use Rattle.bench_model.specs.declared.plan.Strike.TheVariants.{Passes, Off, Cut, Fault}
use Rattle.bench_model.specs.declared.choice.Choice.TheVariants.{New, Old, Mix, Fill}
use Rattle.bench_model.specs.Bench.{next_count}
use Rattle.bench_model.specs.declared.plan.Call.{Call}
use Rattle.bench_model.specs.declared.plan.Plan.{Plan}
use Rattle.bench_model.specs.Plans.{after_call, has_no_power, is_off, is_struck, strike_of}

-- the tickets that were begun on a device, in order, and how many more need no memory
pub record TicketsValue : Type 0 where
  pub begun : List Ticket
  pub spare : ℕ

-- a device that is not there
abbrev pub no_tickets : TicketsValue
no_tickets = record { begun = []; spare = 0 }

-- the count of faults after a call that this strikes
abbrev pub faults_after : Strike → ℕ → ℕ
faults_after strike faults = if is_struck strike then next_count faults else faults

-- what a call of this kind is told: what the plan has for it, and the plan counts the call; without
-- power each call is struck
pub record IsStruckBy (call : Call) (strike : Strike) (old : Plan) (new : Plan) : Type 0 where
  pub told : strike ≡ strike_of call old
  pub counted : new ≡ after_call call old
  pub off : IsTrue (is_off old) → IsTrue (is_struck strike) × IsTrue (has_no_power strike)

-- the count of faults before and after a call that this strikes
pub record HasStrike (strike : Strike) (old : ℕ) (new : ℕ) : Type 0 where
  pub later : old ≤ new
  pub rose : IsTrue (is_struck strike) → Rose old new

-- a change of the folder that this strikes is done all the same: power is cut in it, and the choice
-- is not `Old`
abbrev pub keeps_change : Strike → Bool
keeps_change (Cut New) = true
keeps_change (Cut Old) = false
keeps_change (Cut Mix) = true
keeps_change (Cut (Fill byte)) = true
keeps_change Passes = false
keeps_change Off = false
keeps_change Fault = false
