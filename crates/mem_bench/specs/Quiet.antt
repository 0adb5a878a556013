-- A bench on which nothing fails.
use Rattle.std.specs.Prelude.{◌≡◌}
use Rattle.bench_model.specs.Plans.{no_plan}
use Rattle.mem_bench.specs.declared.clerk.Clerk.{Clerk}

-- the plan strikes nothing, and no fault was counted
pub record IsQuiet (c : Clerk) : Type 0 where
  pub plan : c.plan ≡ no_plan
  pub flash : c.counts.flash_faults ≡ 0
  pub volume : c.counts.volume_faults ≡ 0
