use Rattle.std.proofs.Common.{length, ◌∙◌, ap, arith}
use Rattle.cu_base.specs.Fields.{field}
use Rattle.mem_bench.specs.Regions.{RegionValue}
use Rattle.mem_bench.proofs.SeenLemmas.{seen_long}
use Rattle.mem_bench.proofs.region.Region.read.Goals as goal

pub read-requires : goal.read-requires
read-requires c =
    let within = rw (← c.self.view_is) at c.requires in
    omega (
      arith,
      within,
      c.self.invariant,
      seen_long c.self.inside.size c.self.inside.blocks.table.items
          c.self.inside.blocks.room.kept,
    )

pub returns : goal.returns
returns c =
    let within = rw (← c.self.view_is) at c.requires in
    c.read.ensures c.self.inside.size (omega (
      arith,
      within,
      seen_long c.self.inside.size c.self.inside.blocks.table.items
          c.self.inside.blocks.room.kept,
    ))
    ∙ ap (λ (r : RegionValue). field r.bytes c.args.at (length c.args.out.now)) c.self.view_is
