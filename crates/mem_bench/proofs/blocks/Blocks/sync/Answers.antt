use Rattle.std.proofs.Common.{◌∙◌, ap}
use Rattle.mem_bench.specs.Regions.{RoomValue}
use Rattle.mem_bench.specs.Tables.{seen_through}
use Rattle.mem_bench.proofs.SeenLemmas.{stable_seen}
use Rattle.mem_bench.proofs.blocks.Blocks.sync.Goals as goal

pub returns-clause-stable : goal.returns-clause-stable
returns-clause-stable c = λ size.
    ap (λ (r : RoomValue). seen_through size c.args.self.now.table.items r.kept) c.sync.ensures
    ∙ stable_seen size c.args.self.now.table.items c.args.self.now.room.kept.bytes
