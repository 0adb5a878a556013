use Rattle.std.proofs.Common.{◌≡◌, drop}
use Rattle.reference_machine.specs.Spent.{floor_of, sealed_floors}
use Rattle.report_tables.specs.Entries.{greatest}
use Rattle.reset_play.proofs.thin_play.spent.floor_in_force.Given as goal

-- the floor so far, with the floors of the attempts that are left, is that in force
abbrev pub invariant-loop-attempt : goal.invariant-loop-attempt
invariant-loop-attempt l =
    greatest l.floor (sealed_floors (drop l.attempt-index l.list) 0)
    ≡ floor_of l.fn.board l.fn.list 0
