use Rattle.std.proofs.Common.{◌≡◌, drop}
use Rattle.std.specs.List.{list_all}
use Rattle.capsule_grammar.specs.Fits.{is_nonempty}
use Rattle.capsule_grammar.proofs.fitting.are_nonempty.Given as goal

abbrev pub invariant-loop-driver : goal.invariant-loop-driver
invariant-loop-driver l = list_all is_nonempty
    (drop l.driver-index l.drivers) ≡ list_all is_nonempty l.drivers
