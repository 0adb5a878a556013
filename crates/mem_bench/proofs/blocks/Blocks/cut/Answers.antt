use Rattle.std.proofs.Common.{◌∙◌, ap}
use Rattle.mem_bench.specs.Regions.{RoomValue}
use Rattle.mem_bench.specs.Tables.{seen_through}
use Rattle.mem_bench.proofs.SeenLemmas.{cut_seen, stable_seen}
use Rattle.mem_bench.proofs.blocks.Blocks.cut.Goals as goal

pub returns-clause-stable : goal.returns-clause-stable
returns-clause-stable c = λ size.
    ap (λ (r : RoomValue). seen_through size c.args.self.now.table.items r.kept)
    c.cut.ensures.stable
    ∙ stable_seen size c.args.self.now.table.items c.cut.new.self.kept.bytes

pub returns-clause-cut : goal.returns-clause-cut
returns-clause-cut c = λ size.
    cut_seen c.args.choice size c.args.self.now.table.items c.args.self.now.made
    c.args.self.now.rule c.args.self.now.room.kept c.cut.ensures.rule c.args.self.now.kept
    c.cut.new.self.kept.bytes c.cut.ensures.cut
