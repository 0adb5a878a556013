use Rattle.std.proofs.Common.{◌≡◌, length, ◌∙◌, ap, arith, subst}
use Rattle.cu_base.specs.Fields.{field}
use Rattle.mem_bench.specs.Blocks.{seen}
use Rattle.mem_bench.specs.Regions.{IsRegion, RegionValue, written}
use Rattle.mem_bench.proofs.RegionLemmas.{overlaid_reads, written_region}
use Rattle.mem_bench.proofs.SeenLemmas.{IsRegion-seen, seen_long}
use Rattle.mem_bench.proofs.region.Region.write.Goals as goal

pub write-requires : goal.write-requires
write-requires c =
    let within = rw (← c.self.view_is) at c.requires in
    omega (
      arith,
      within,
      c.self.invariant,
      seen_long c.self.inside.size c.self.inside.blocks.table.items
          c.self.inside.blocks.room.kept,
    )

-- what the write leaves
left : (c : goal.After-write) → seen c.self.inside.size c.write.new.self
    ≡ written c.args.at c.args.bytes.now c.args.self.now
left c =
    let within = rw (← c.self.view_is) at c.requires in
    c.write.ensures.written c.self.inside.size (omega (
      arith,
      within,
      seen_long c.self.inside.size c.self.inside.blocks.table.items
          c.self.inside.blocks.room.kept,
    ))
    ∙ ap (λ (r : RegionValue). written c.args.at c.args.bytes.now r) c.self.view_is

-- all places are there in all three lists of it
whole : (c : goal.After-write) → IsRegion c.args.self.now
whole c =
    subst IsRegion c.self.view_is (IsRegion-seen c.self.inside.size
    c.self.inside.blocks.table.items c.self.inside.blocks.room.kept)

pub returns-clause-written : goal.returns-clause-written
returns-clause-written c = left c

pub returns-clause-writes : goal.returns-clause-writes
returns-clause-writes c =
    written_region c.args.self.now (seen c.self.inside.size c.write.new.self) c.args.at
    c.args.bytes.now (whole c) c.requires (ap (λ (r : RegionValue). r.bytes) (left c))
    (ap (λ (r : RegionValue). r.marks) (left c))

pub returns-clause-reads : goal.returns-clause-reads
returns-clause-reads c =
    ap (λ (r : RegionValue). field r.bytes c.args.at (length c.args.bytes.now)) (left c)
    ∙ overlaid_reads c.args.self.now.bytes c.args.at c.args.bytes.now c.requires
