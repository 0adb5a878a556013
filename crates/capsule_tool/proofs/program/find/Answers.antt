use Rattle.std.proofs.Common.{inl}
use Rattle.bench_model.specs.declared.counts.Counts.{Counts}
use Rattle.capsule_tool.proofs.program.find.Goals as goal

pub returns-in-Err-Answered-clause-ok : goal.returns-in-Err-Answered-clause-ok
returns-in-Err-Answered-clause-ok g c = λ counts counts'.
    rw c.bare.ensures
    (inl (rw c.in-Err-Answered.field-0-is at (c.in-Err-Answered.ensures.ends counts counts')))

nothing : Counts
nothing = record { moves = 0; looks = 0; flash_faults = 0; volume_faults = 0 }

pub returns-in-Err-Memory-clause-memory : goal.returns-in-Err-Memory-clause-memory
returns-in-Err-Memory-clause-memory g c =
    rw c.in-Err-Memory.field-0-is at (c.in-Err-Memory.ensures.ends nothing nothing)
