use Rattle.std.proofs.Common.{◌≡◌, replicate}
use Rattle.mem_bench.specs.Parts.{no_tickets}
use Rattle.mem_bench.proofs.factory.first_tickets.Given as goal

abbrev pub invariant-loop : goal.invariant-loop
invariant-loop l = record { so_far : l.all.items ≡ replicate l.counter no_tickets }
