use Rattle.std.proofs.Common.{length, ◌∙◌, ap, sym}
use Rattle.mem_bench.specs.Regions.{RegionValue}
use Rattle.mem_bench.proofs.SeenLemmas.{seen_long}
use Rattle.mem_bench.proofs.region.Region.size.Goals as goal

pub returns : goal.returns
returns c =
    sym (ap (λ (r : RegionValue). length r.bytes) (sym c.self.view_is)
    ∙ seen_long c.self.inside.size c.self.inside.blocks.table.items c.self.inside.blocks.room.kept)
