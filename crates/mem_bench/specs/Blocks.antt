-- A region by its blocks, as a region. Own format.
use Rattle.std.specs.Prelude.{ℕ}
use Rattle.mem_bench.specs.declared.blocks.Blocks.{Blocks}
use Rattle.mem_bench.specs.Regions.{RegionValue}
use Rattle.mem_bench.specs.Tables.{seen_through}

-- a region of this size by its blocks
abbrev pub seen : ℕ → Blocks → RegionValue
seen size b = seen_through size b.table.items b.room.kept
