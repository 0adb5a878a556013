use Rattle.std.proofs.Common.{◌+◌, ◌∙◌, ap}
use Rattle.std.proofs.Math.ListN.{set}
use Rattle.mem_bench.specs.Regions.{RoomValue}
use Rattle.mem_bench.specs.Tables.{seen_through}
use Rattle.mem_bench.proofs.SeenLemmas.{whole_seen}
use Rattle.mem_bench.proofs.blocks.Blocks.keep_whole.Goals as goal

pub returns-clause-written : goal.returns-clause-written
returns-clause-written c = λ size fits.
    ap (λ (r : RoomValue). seen_through size
    (set c.args.self.now.table.items c.args.block (c.args.self.now.made + 1)) r.kept)
    c.append.ensures.value
    ∙ whole_seen size c.args.self.now.table.items c.args.self.now.made c.args.block
    c.args.self.now.rule c.requires.there c.requires.blank c.args.self.now.room.kept
    c.append.ensures.rule c.args.self.now.kept c.args.bytes.now c.requires.whole fits
